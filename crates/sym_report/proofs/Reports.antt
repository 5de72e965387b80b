-- The text of a report, piece by piece.
use Rattle.std.proofs.Common.{◌≡◌, ◌∙◌, ℕ, zero, suc, ◌+◌, add-one, Bool, ◌||◌, List, [], ◌∷◌, ◌++◌}
use Rattle.std.proofs.Common.{map, take, slice_get, refl, sym, ap, append_assoc}
use Rattle.std.proofs.lemmas.Grind.{flat_map-append}
use Rattle.std.proofs.lemmas.List.{map-append}
use Rattle.std.proofs.lemmas.List.Folds.{list_any-append}
use Rattle.std.specs.List.{flat_map}
use Rattle.sym_report.specs.declared.rows.Heads.{Heads}
use Rattle.sym_report.specs.declared.rows.Row.{Row}
use Rattle.sym_report.specs.Appending.{listed}
use Rattle.sym_report.specs.Forms.{FormTexts, rows_text}
use Rattle.sym_report.specs.ReportRows.{is_faulty, some_faulty}

taken :
    {A : Type 0} (xs : List A) (i : ℕ) → take (i + 1) xs ≡ take i xs ++ listed (slice_get xs i)
taken [] zero = refl
taken [] (suc i) = rw add-one refl
taken (x ∷ xs) zero = refl
taken (x ∷ xs) (suc i) = rw add-one (ap (λ ys. x ∷ ys) (rw add-one at (taken xs i)))

rows_taken :
    {A : Type 0} (row : A → Row) (groups : List A) (i : ℕ) →
    map row (take (i + 1) groups)
    ≡ map row (take i groups) ++ map row (listed (slice_get groups i))
rows_taken row groups i =
    ap (map row) (taken groups i) ∙ map-append row (take i groups) (listed (slice_get groups i))

-- The texts of the rows of one group more. No call changes the form's texts.
pub rows_more :
    {A : Type 0} (first now : FormTexts) (heads : Heads) (row : A → Row) (groups : List A) (i : ℕ)
    (start old new : List ℕ) → now ≡ first →
    old ≡ start ++ rows_text first heads (map row (take i groups)) →
    new ≡ old ++ rows_text now heads (map row (listed (slice_get groups i))) →
    new ≡ start ++ rows_text first heads (map row (take (i + 1) groups))
rows_more first now heads row groups i start old new same before here =
    let left = map row (take i groups) in
    let right = map row (listed (slice_get groups i)) in
    let text = first.row heads in
    here
    ∙ ap (λ (form : FormTexts). old ++ rows_text form heads right) same
    ∙ ap (λ t. t ++ flat_map text right) before
    ∙ append_assoc start (flat_map text left) (flat_map text right)
    ∙ ap (λ t. start ++ t)
    (sym (ap (flat_map text) (rows_taken row groups i) ∙ flat_map-append text left right))

pub faulty_more :
    {A : Type 0} (row : A → Row) (groups : List A) (i : ℕ) (old found new : Bool) →
    old ≡ some_faulty (map row (take i groups)) →
    found ≡ some_faulty (map row (listed (slice_get groups i))) → new ≡ (old || found) →
    new ≡ some_faulty (map row (take (i + 1) groups))
faulty_more row groups i old found new before here either =
    let left = map row (take i groups) in
    let right = map row (listed (slice_get groups i)) in
    either ∙ ap (λ t. t || found) before ∙ ap (λ t. some_faulty left || t) here
    ∙ sym
    (ap some_faulty (rows_taken row groups i)
    ∙ list_any-append (λ (r : Row). is_faulty r.body) left right)
