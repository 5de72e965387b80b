-- The first form of a name among the forms that are left.
use Rattle.std.proofs.Common.{◌≡◌, ◌∙◌, ℕ, ◌+◌, ◌<◌, ◌≤◌, true, List, ◌∷◌, Some, None}
use Rattle.std.proofs.Common.{length, drop, get_or, if◌then◌else◌, refl, sym, ap}
use Rattle.std.proofs.lemmas.List.{drop_all, drop_more}
use Rattle.std.proofs.lemmas.Option.{slice_get_read}
use Rattle.std.specs.Str.{bytes_eq}
use Rattle.sym_report.specs.Forms.{form_named}

-- The item at a place is one, however it was read.
same_item :
    {F : Type 0} (forms : List F) (i : ℕ) (one other : F) → i < length forms →
    one ≡ get_or forms i one → other ≡ get_or forms i other → one ≡ other
same_item forms i one other within one_is other_is =
    let first = slice_get_read forms (length forms) i one refl within one_is in
    let second = slice_get_read forms (length forms) i other refl within other_is in
    let both : Some one ≡ Some other = sym first ∙ second in
    cc both

-- Where the form at a place has the name, it is the first of the forms from there on.
pub named_here :
    {F : Type 0} (called : F → List ℕ) (name : List ℕ) (forms : List F) (i : ℕ) (one taken : F) →
    i < length forms → one ≡ get_or forms i one → taken ≡ get_or forms i taken →
    bytes_eq (called one) name ≡ true → Some taken ≡ form_named called name (drop i forms)
named_here called name forms i one taken within one_is taken_is named =
    let rest = drop (i + 1) forms in
    let left : drop i forms ≡ taken ∷ rest =
    drop_more forms i taken within ∙ ap (λ form. form ∷ rest) (sym taken_is) in
    let same = same_item forms i one taken within one_is taken_is in
    let has_name : bytes_eq (called taken) name ≡ true =
    ap (λ form. bytes_eq (called form) name) (sym same) ∙ named in
    sym
    (ap (form_named called name) left
    ∙ ap (λ b. if b then Some taken else form_named called name rest) has_name)

-- Past the last form no form is left.
pub none_named :
    {F : Type 0} (called : F → List ℕ) (name : List ℕ) (forms : List F) (i : ℕ) →
    length forms ≤ i → None ≡ form_named called name (drop i forms)
none_named called name forms i past =
    ap (form_named called name) (sym (drop_all i forms past))
