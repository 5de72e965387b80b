-- What a path gives with another form of a cell.
use Rattle.std.proofs.Common.{◌≡◌, ℕ, ℤ, Bool, true, false, List, [], ◌∷◌, ◌++◌, Option, Some, None, map, refl, sym, ap, ◌∙◌, subst, append_assoc}
use Rattle.std.proofs.lemmas.List.{map-append}
use Rattle.std.specs.Prelude.{slice_get, if◌then◌else◌}
use Rattle.sym_base.specs.declared.values.state.Cell.{Cell}
use Rattle.sym_base.specs.declared.values.state.Cell.TheVariants as cell
use Rattle.sym_base.specs.declared.values.state.State.{State}
use Rattle.sym_base.specs.declared.values.state.Outcome.{Outcome}
use Rattle.sym_base.specs.declared.values.state.Outcome.TheVariants.{Going}
use Rattle.sym_base.specs.States.{label_at, cell_label, nums_at, cell_nums, parts_at, cell_parts, with_cell, with_word, cell_words}
use Rattle.sym_base.specs.Tests.{Truth}
use Rattle.sym_check.specs.declared.plan.script.CellPlan.{CellPlan}
use Rattle.sym_check.specs.declared.plan.script.CellPlan.TheVariants as plan
use Rattle.sym_check.specs.Plan.CellKinds.{IsNumsCell, IsWordsCell}
use Rattle.sym_check.specs.Plan.ScriptPlans.{ScriptPlan}
use Rattle.sym_check.specs.Plan.WellFormed.{AreOfOneEnum, HaveSameKinds}
use Rattle.sym_enum.specs.declared.form.EnumForm.{EnumForm}
use Rattle.sym_int.specs.Lines.{form_value}
use Rattle.sym_int.specs.declared.form.IntForm.{IntForm}
use Rattle.sym_pred.specs.declared.form.HoldForm.{HoldForm}
use Rattle.sym_path.proofs.Changed.{forms_give}
use Rattle.sym_path.proofs.Decided.{admits_decided}
use Rattle.sym_path.proofs.FollowedStates.{cells_at_get}
use Rattle.sym_path.proofs.Lists.{zip_get}
use Rattle.sym_path.specs.declared.form.Form.{Form}
use Rattle.sym_path.specs.declared.form.Form.TheVariants as form
use Rattle.sym_path.specs.declared.part.Part.{Part}
use Rattle.sym_path.specs.declared.path.PathEnd.{PathEnd}
use Rattle.sym_path.specs.declared.path.PathEnd.TheVariants.{Next, Ended}
use Rattle.sym_path.specs.declared.path.Path.{Path}
use Rattle.sym_path.specs.Admitting.{Admits, PartAdmits, admits}
use Rattle.sym_path.specs.Changing.{cell_or, changed, form_of, formed, with_form}
use Rattle.sym_path.specs.Fitting.{EndFits, FormFits, FormsFit, PartFits, PathFits}
use Rattle.sym_path.specs.Fitting as fitting
use Rattle.sym_path.specs.Giving.{cell_at, cells_at, end_at, given, nums_after, state_at, words_after}
use Rattle.sym_explore.proofs.AssignedKnown.{nums_plan}
use Rattle.sym_explore.specs.Assigning.{added_numbers, added_words, hold_form, parts_form}
use Rattle.sym_explore.specs.Labels.{enum_form, label_form}

-- ---- changes that are the same at the states that the path gives

same_given : (a : Bool) (f g : Outcome → Outcome) (o : Outcome) → (a ≡ true → f o ≡ g o) → map f (if a then o ∷ [] else []) ≡ map g (if a then o ∷ [] else [])
same_given true f g o e = ap (λ x. x ∷ []) (e refl)
same_given false f g o e = refl

same_end : (end : PathEnd) (f g : State → State) (s : State) → ((forms : List Form) → end ≡ Next forms → f (state_at forms s) ≡ g (state_at forms s)) → changed f (end_at end s) ≡ changed g (end_at end s)
same_end (Next forms) f g s e = ap (λ x. Going x) (e forms refl)
same_end (Ended fault) f g s e = refl

pub same_changes : (truth : Truth) (path : Path) (s : State) (f g : State → State) → ((forms : List Form) → path.end ≡ Next forms → Admits truth path.when s → f (state_at forms s) ≡ g (state_at forms s)) → map (changed f) (given truth path s) ≡ map (changed g) (given truth path s)
same_changes truth path s f g e =
    same_given (admits truth path.when s.cells) (changed f) (changed g) (end_at path.end s)
    (λ t. same_end path.end f g s (λ forms is. e forms is ((admits_decided truth path.when s).0 t)))

-- Another form that stands for what a change makes of the cell.
pub form_gives : (truth : Truth) (path : Path) (s : State) (c : ℕ) (f : Form) (g : State → State) → ((forms : List Form) → path.end ≡ Next forms → Admits truth path.when s → formed c f s (state_at forms s) ≡ g (state_at forms s)) → given truth (with_form path c f) s ≡ map (changed g) (given truth path s)
form_gives truth path s c f g e = forms_give truth s path c f ∙ same_changes truth path s (formed c f s) g e

-- ---- what the cells hold then

module _ (truth : Truth) (p : ScriptPlan) (path : Path) (s : State) (fits : PathFits p path) (forms : List Form) (is : path.end ≡ Next forms) (admitted : Admits truth path.when s) where
  forms_fit : FormsFit p path.when forms
  forms_fit = subst (λ (e : PathEnd). EndFits p path.when e) is fits.end

  -- The cell before the path, and after it.
  pub held : (c : ℕ) (cp : CellPlan) (f : Form) → slice_get p.cells c ≡ Some cp → slice_get forms c ≡ Some f → (x : Cell) × (slice_get s.cells c ≡ Some x) × (slice_get (cells_at forms s s.cells) c ≡ Some (cell_at f s x))
  held c cp f at at_f =
      let (part, at_part, q) = zip_get (PartFits p) p.cells path.when c cp fits.parts at in
      let (x, at_x, a) = zip_get (PartAdmits truth) path.when s.cells c part admitted at_part in
      (x, at_x, cells_at_get forms s s.cells c f x at_f at_x)

-- The form of a cell of a path that goes on, which fits the cell.
pub form_there : (p : ScriptPlan) (when : List Part) (forms : List Form) (c : ℕ) (cp : CellPlan) → FormsFit p when forms → slice_get p.cells c ≡ Some cp → (f : Form) × (slice_get forms c ≡ Some f) × FormFits p when cp f
form_there p when forms c cp fits at = zip_get (FormFits p when) p.cells forms c cp fits.each at

form_is : (path : Path) (forms : List Form) (c : ℕ) → path.end ≡ Next forms → form_of path.end c ≡ slice_get forms c
form_is path forms c is = ap (λ (e : PathEnd). form_of e c) is

-- ---- copies

is_enum_form : (o : Option Form) (f : EnumForm) → enum_form o ≡ Some f → o ≡ Some (form.Enum f)
is_enum_form None f e = absurd (cc)
is_enum_form (Some (form.Enum g)) f e = let same : g ≡ f = cc in ap (λ x. Some (form.Enum x)) same
is_enum_form (Some (form.Int g)) f e = absurd (cc)
is_enum_form (Some (form.Hold g)) f e = absurd (cc)
is_enum_form (Some (form.Nums g)) f e = absurd (cc)
is_enum_form (Some (form.Words g)) f e = absurd (cc)

pub label_form_is : (path : Path) (d : ℕ) (f : EnumForm) → label_form path d ≡ Some f → form_of path.end d ≡ Some (form.Enum f)
label_form_is path d f e = is_enum_form (form_of path.end d) f e

is_hold_form : (o : Option Form) (f : HoldForm) → hold_form o ≡ Some f → o ≡ Some (form.Hold f)
is_hold_form None f e = absurd (cc)
is_hold_form (Some (form.Enum g)) f e = absurd (cc)
is_hold_form (Some (form.Int g)) f e = absurd (cc)
is_hold_form (Some (form.Hold g)) f e = let same : g ≡ f = cc in ap (λ x. Some (form.Hold x)) same
is_hold_form (Some (form.Nums g)) f e = absurd (cc)
is_hold_form (Some (form.Words g)) f e = absurd (cc)

pub parts_form_is : (path : Path) (d : ℕ) (f : HoldForm) → parts_form path d ≡ Some f → form_of path.end d ≡ Some (form.Hold f)
parts_form_is path d f e = is_hold_form (form_of path.end d) f e

pub label_copied : (truth : Truth) (p : ScriptPlan) (path : Path) (s : State) (c d : ℕ) (f : EnumForm) → PathFits p path → AreOfOneEnum p.cells c d → form_of path.end d ≡ Some (form.Enum f) → given truth (with_form path c (form.Enum f)) s ≡ map (changed (λ t. with_cell t c (cell.Enum (label_at t d)))) (given truth path s)
label_copied truth p path s c d f fits cells at = form_gives truth path s c (form.Enum f) (λ t. with_cell t c (cell.Enum (label_at t d))) same
  where
    same : (forms : List Form) → path.end ≡ Next forms → Admits truth path.when s → formed c (form.Enum f) s (state_at forms s) ≡ with_cell (state_at forms s) c (cell.Enum (label_at (state_at forms s) d))
    same forms is admitted =
        let at_f : slice_get forms d ≡ Some (form.Enum f) = sym (form_is path forms d is) ∙ at in
        let (x, at_x, now) = held truth p path s fits forms is admitted d (plan.Enum cells.enum cells.from.first) (form.Enum f) cells.from.is at_f in
        ap (λ (o : Option Cell). with_cell (state_at forms s) c (cell.Enum (cell_label o))) (sym now)

pub parts_copied : (truth : Truth) (p : ScriptPlan) (path : Path) (s : State) (c d : ℕ) (f : HoldForm) → PathFits p path → HaveSameKinds p.cells c d → form_of path.end d ≡ Some (form.Hold f) → given truth (with_form path c (form.Hold f)) s ≡ map (changed (λ t. with_cell t c (cell.Hold (parts_at t d)))) (given truth path s)
parts_copied truth p path s c d f fits cells at = form_gives truth path s c (form.Hold f) (λ t. with_cell t c (cell.Hold (parts_at t d))) same
  where
    same : (forms : List Form) → path.end ≡ Next forms → Admits truth path.when s → formed c (form.Hold f) s (state_at forms s) ≡ with_cell (state_at forms s) c (cell.Hold (parts_at (state_at forms s) d))
    same forms is admitted =
        let at_f : slice_get forms d ≡ Some (form.Hold f) = sym (form_is path forms d is) ∙ at in
        let (x, at_x, now) = held truth p path s fits forms is admitted d (plan.Hold cells.parts cells.from.first) (form.Hold f) cells.from.is at_f in
        ap (λ (o : Option Cell). with_cell (state_at forms s) c (cell.Hold (cell_parts o))) (sym now)

-- ---- pushes

pub words_form : (p : ScriptPlan) (path : Path) (forms : List Form) (c : ℕ) → PathFits p path → path.end ≡ Next forms → IsWordsCell p.cells c → (added : List (List ℕ)) × (slice_get forms c ≡ Some (form.Words added))
words_form p path forms c fits is words =
    let fit : FormsFit p path.when forms = subst (λ (e : PathEnd). EndFits p path.when e) is fits.end in
    let (f, at, q) = form_there p path.when forms c plan.Words fit words.is in
    let (added, same) = is_words f q in
    (added, at ∙ ap (λ (g : Form). Some g) same)
  where
    is_words : (f : Form) → FormFits p path.when plan.Words f → (added : List (List ℕ)) × (f ≡ form.Words added)
    is_words _ (fitting.of_words added) = (added, refl)

pub word_pushed : (truth : Truth) (p : ScriptPlan) (path : Path) (s : State) (c : ℕ) (w : List ℕ) → PathFits p path → IsWordsCell p.cells c → given truth (with_form path c (form.Words (added_words (form_of path.end c) ++ w ∷ []))) s ≡ map (changed (λ t. with_word t c w)) (given truth path s)
word_pushed truth p path s c w fits words = form_gives truth path s c more (λ t. with_word t c w) same
  where
    more : Form
    more = form.Words (added_words (form_of path.end c) ++ w ∷ [])

    same : (forms : List Form) → path.end ≡ Next forms → Admits truth path.when s → formed c more s (state_at forms s) ≡ with_word (state_at forms s) c w
    same forms is admitted =
        let (added, at) = words_form p path forms c fits is words in
        let (x, at_x, now) = held truth p path s fits forms is admitted c plan.Words (form.Words added) words.is at in
        let old : added_words (form_of path.end c) ≡ added = ap added_words (form_is path forms c is ∙ at) in
        let left : words_after (added_words (form_of path.end c) ++ w ∷ []) (cell_or (slice_get s.cells c)) ≡ cell_words (Some x) ++ (added ++ w ∷ []) =
        (λ i. words_after (old i ++ w ∷ []) (cell_or (at_x i))) in
        let right : cell_words (slice_get (cells_at forms s s.cells) c) ++ w ∷ [] ≡ (cell_words (Some x) ++ added) ++ w ∷ [] = ap (λ (o : Option Cell). cell_words o ++ w ∷ []) now in
        let both : words_after (added_words (form_of path.end c) ++ w ∷ []) (cell_or (slice_get s.cells c)) ≡ cell_words (slice_get (cells_at forms s s.cells) c) ++ w ∷ [] = left ∙ sym (append_assoc (cell_words (Some x)) added (w ∷ [])) ∙ sym right in
        ap (λ (ts : List (List ℕ)). with_cell (state_at forms s) c (cell.Words ts)) both

pub nums_form : (p : ScriptPlan) (path : Path) (forms : List Form) (c : ℕ) → PathFits p path → path.end ≡ Next forms → IsNumsCell p.cells c → (added : List IntForm) × (slice_get forms c ≡ Some (form.Nums added))
nums_form p path forms c fits is nums =
    let fit : FormsFit p path.when forms = subst (λ (e : PathEnd). EndFits p path.when e) is fits.end in
    let (f, at, q) = form_there p path.when forms c (nums_plan nums) fit nums.is in
    let (added, same) = is_nums nums.lo nums.hi f q in
    (added, at ∙ ap (λ (g : Form). Some g) same)
  where
    is_nums : (lo hi : ℤ) {clamp : Bool} (f : Form) → FormFits p path.when (plan.Nums lo hi clamp) f → (added : List IntForm) × (f ≡ form.Nums added)
    is_nums _ _ _ (fitting.of_numbers lo hi added h) = (added, refl)

pub number_pushed : (truth : Truth) (p : ScriptPlan) (path : Path) (s : State) (c : ℕ) (f : IntForm) → PathFits p path → IsNumsCell p.cells c → given truth (with_form path c (form.Nums (added_numbers (form_of path.end c) ++ f ∷ []))) s ≡ map (changed (λ t. with_cell t c (cell.Nums (nums_at t c ++ form_value f s ∷ [])))) (given truth path s)
number_pushed truth p path s c f fits nums = form_gives truth path s c more (λ t. with_cell t c (cell.Nums (nums_at t c ++ form_value f s ∷ []))) same
  where
    more : Form
    more = form.Nums (added_numbers (form_of path.end c) ++ f ∷ [])

    same : (forms : List Form) → path.end ≡ Next forms → Admits truth path.when s → formed c more s (state_at forms s) ≡ with_cell (state_at forms s) c (cell.Nums (nums_at (state_at forms s) c ++ form_value f s ∷ []))
    same forms is admitted =
        let (added, at) = nums_form p path forms c fits is nums in
        let (x, at_x, now) = held truth p path s fits forms is admitted c (nums_plan nums) (form.Nums added) nums.is at in
        let old : added_numbers (form_of path.end c) ≡ added = ap added_numbers (form_is path forms c is ∙ at) in
        let left : nums_after (added_numbers (form_of path.end c) ++ f ∷ []) s (cell_or (slice_get s.cells c)) ≡ cell_nums (Some x) ++ map (λ g. form_value g s) (added ++ f ∷ []) =
        (λ i. nums_after (old i ++ f ∷ []) s (cell_or (at_x i))) in
        let mapped : map (λ g. form_value g s) (added ++ f ∷ []) ≡ map (λ g. form_value g s) added ++ form_value f s ∷ [] = map-append (λ g. form_value g s) added (f ∷ []) in
        let right : cell_nums (slice_get (cells_at forms s s.cells) c) ++ form_value f s ∷ [] ≡ (cell_nums (Some x) ++ map (λ g. form_value g s) added) ++ form_value f s ∷ [] = ap (λ (o : Option Cell). cell_nums o ++ form_value f s ∷ []) now in
        let both : nums_after (added_numbers (form_of path.end c) ++ f ∷ []) s (cell_or (slice_get s.cells c)) ≡ cell_nums (slice_get (cells_at forms s s.cells) c) ++ form_value f s ∷ [] =
        left ∙ ap (λ (xs : List ℤ). cell_nums (Some x) ++ xs) mapped ∙ sym (append_assoc (cell_nums (Some x)) (map (λ g. form_value g s) added) (form_value f s ∷ [])) ∙ sym right in
        ap (λ (xs : List ℤ). with_cell (state_at forms s) c (cell.Nums xs)) both
