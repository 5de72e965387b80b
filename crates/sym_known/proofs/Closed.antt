-- The paths into which known ones turn back stand for the same records.
use Rattle.std.proofs.Common.{◌≡◌, ◌≤◌, ◌<◌, ◌+◌, ℕ, zero, suc, ℤ, List, [], ◌∷◌, ◌++◌, Option, Some, None, map, length, refl, sym, ap, ap₂, ◌∙◌, subst, arith, append_assoc, ◌⊎◌, inl, inr, Bool, length-append, get_or, to_z, of_z, w64, rules}
use Rattle.std.proofs.lemmas.Int.{to_z-of_z}
use mir.Val.{SFits}
use Rattle.std.proofs.lemmas.List.{append-nil}
use Rattle.std.proofs.lemmas.List.Elements.{All-append, All-cons, All-head, All-nil, All-tail}
use Rattle.std.proofs.lemmas.Option.{slice_get-map, slice_get_read}
use Rattle.std.specs.List.{All, AllZip}
use Rattle.std.specs.Option.{option_map}
use Rattle.std.specs.Prelude.{slice_get, if◌then◌else◌}
use Rattle.sym_base.specs.Limits.{IsNumber}
use Rattle.sym_base.specs.Tests.{Truth}
use Rattle.sym_base.specs.States.{cell_nums, cell_words}
use Rattle.sym_base.specs.declared.values.record.Record.{Record}
use Rattle.sym_base.specs.declared.values.state.Cell.{Cell}
use Rattle.sym_base.specs.declared.values.state.Cell.TheVariants as cell
use Rattle.sym_base.specs.declared.values.state.State.{State}
use Rattle.sym_base.specs.declared.values.state.Outcome.{Outcome}
use Rattle.sym_base.specs.declared.values.state.Outcome.TheVariants.{Going}
use Rattle.sym_base.specs.declared.values.state.Outcome.TheVariants as outcome
use Rattle.sym_check.specs.declared.plan.script.CellPlan.{CellPlan}
use Rattle.sym_check.specs.declared.plan.script.CellPlan.TheVariants as plan
use Rattle.sym_check.specs.declared.plan.script.EnumPlan.{EnumPlan}
use Rattle.sym_check.specs.Meaning.Conditions.{test_truth}
use Rattle.sym_check.specs.Meaning.Fitting.{FitsOutcome}
use Rattle.sym_check.specs.Meaning.Updates.{after}
use Rattle.sym_check.specs.Meaning.Validity.{IsValid, IsValidCell, IsValidOutcome}
use Rattle.sym_check.specs.Meaning.Validity as valid
use Rattle.sym_check.specs.Plan.Ranges.{InRange}
use Rattle.sym_check.specs.Plan.ScriptPlans.{ScriptPlan}
use Rattle.sym_check.specs.Plan.WellFormed.{IsCell, IsWellFormed}
use Rattle.sym_enum.specs.declared.form.EnumForm.TheVariants as label
use Rattle.sym_int.specs.Elements.{IsConstant}
use Rattle.sym_int.specs.Lines.{form_value}
use Rattle.sym_int.specs.declared.form.IntForm.{IntForm}
use Rattle.sym_int.specs.declared.form.IntForm.TheVariants as number
use Rattle.sym_int.specs.declared.form.Number.{Number}
use Rattle.sym_pred.specs.declared.form.HoldForm.TheVariants as hold
use Rattle.sym_path.specs.declared.form.Form.{Form}
use Rattle.sym_path.specs.declared.form.Form.TheVariants as form
use Rattle.sym_path.specs.declared.part.Part.{Part}
use Rattle.sym_path.specs.declared.path.PathEnd.{PathEnd}
use Rattle.sym_path.specs.declared.path.PathEnd.TheVariants.{Next, Ended}
use Rattle.sym_path.specs.declared.path.Path.{Path}
use Rattle.sym_path.specs.Admitting.{admits}
use Rattle.sym_path.specs.Fitting.{EndFits, FormFits, FormsFit, NumberFits, PathFits, SegmentFits}
use Rattle.sym_path.specs.Fitting as fitting
use Rattle.sym_path.specs.Giving.{cell_at, cells_at, end_at, given, outcomes}
use Rattle.sym_path.specs.Kinds.{IsIntForm, IsNumsForm, IsWordsForm}
use Rattle.sym_path.specs.Standing.{EndsAmong, StandsFor}
use Rattle.sym_path.specs.Taking.{IsTakenOn, LabelIsTakenTo, NumberIsTakenTo}
use Rattle.sym_path.proofs.Fitted.{number_between}
use Rattle.sym_path.proofs.Lists.{all_at, all_from, map_both, push_cases, zip_all, zip_both, zip_length}
use Rattle.sym_path.proofs.OnlyOutcomes.{only_outcome}
use Rattle.sym_known.specs.Closing.{AreFormsOf, CanBeClosed, CanClose, HasScriptNumbers, IsClosed, IsEndOf, IsFormOf, IsLonger, added_nums, added_words, forms_of}
use Rattle.sym_known.specs.declared.placed.Placed.{Placed}
use Rattle.sym_known.specs.Placing.{known_in}
use Rattle.sym_known.specs.Fronts.{in_front, outcome_fronted, with_fronts}
use Rattle.sym_known.specs.Holding.{AllFit, EndedAmong, KnownFits, KnownPath, KnownStandsFor, StaysEnded, given_cells, known_at, known_given, known_outcomes}

-- ---- one cell

-- A cell with a list has the form of one.
abbrev HasListForm : Form → Cell → Type 0
HasListForm f (cell.Enum l) = Unit {0}
HasListForm f (cell.Int x) = Unit {0}
HasListForm f (cell.Hold parts) = Unit {0}
HasListForm f (cell.Nums xs) = IsNumsForm (λ added. Unit {0}) f
HasListForm f (cell.Words ts) = IsWordsForm (λ added. Unit {0}) f

nums_form : (p : ScriptPlan) (when : List Part) (cp : CellPlan) (f : Form) → FormFits p when cp f → (lo hi : ℤ) (clamp : _) → cp ≡ plan.Nums lo hi clamp → IsNumsForm (λ added. Unit {0}) f
nums_form p when _ _ (fitting.of_label of first l h) lo hi clamp e = absurd (cc)
nums_form p when _ _ (fitting.copied_label of first c h) lo hi clamp e = absurd (cc)
nums_form p when _ _ (fitting.of_number lo' hi' first f h) lo hi clamp e = absurd (cc)
nums_form p when _ _ (fitting.of_parts kinds first parts h) lo hi clamp e = absurd (cc)
nums_form p when _ _ (fitting.copied_parts kinds first c h) lo hi clamp e = absurd (cc)
nums_form p when _ _ (fitting.of_numbers lo' hi' added h) lo hi clamp e = tt
nums_form p when _ _ (fitting.of_words added) lo hi clamp e = absurd (cc)

words_form : (p : ScriptPlan) (when : List Part) (cp : CellPlan) (f : Form) → FormFits p when cp f → cp ≡ plan.Words → IsWordsForm (λ added. Unit {0}) f
words_form p when _ _ (fitting.of_label of first l h) e = absurd (cc)
words_form p when _ _ (fitting.copied_label of first c h) e = absurd (cc)
words_form p when _ _ (fitting.of_number lo hi first f h) e = absurd (cc)
words_form p when _ _ (fitting.of_parts kinds first parts h) e = absurd (cc)
words_form p when _ _ (fitting.copied_parts kinds first c h) e = absurd (cc)
words_form p when _ _ (fitting.of_numbers lo hi added h) e = absurd (cc)
words_form p when _ _ (fitting.of_words added) e = tt

list_form : (p : ScriptPlan) (when : List Part) (cp : CellPlan) (f : Form) (c : Cell) → FormFits p when cp f → IsValidCell p.enums cp c → HasListForm f c
list_form p when _ f _ fits (valid.int lo hi first clamp x h) = tt
list_form p when _ f _ fits (valid.nums lo hi clamp xs h) = nums_form p when (plan.Nums lo hi clamp) f fits lo hi clamp refl
list_form p when _ f _ fits (valid.words ts) = words_form p when plan.Words f fits refl
list_form p when _ f _ fits (valid.hold kinds first parts h) = tt
list_form p when _ f _ fits (valid.enum of first l h) = tt

-- Constants have their numbers at each state.
constants_are : (s : State) (xs : List ℤ) (tail : List IntForm) → AllZip IsConstant xs tail → map (λ f. form_value f s) tail ≡ xs
constants_are s [] [] h = refl
constants_are s [] (f ∷ tail) h = absurd h
constants_are s (x ∷ xs) [] h = absurd h
constants_are s (x ∷ xs) (number.Const n ∷ tail) h = ap₂ (λ (y : ℤ) (ys : List ℤ). y ∷ ys) h.0 (constants_are s xs tail h.1)
constants_are s (x ∷ xs) (number.Line line ∷ tail) h = absurd h.0

longer_gives : (s : State) (olds : List ℤ) (added more : List IntForm) (xs : List ℤ) → IsLonger added xs more → olds ++ map (λ f. form_value f s) more ≡ (olds ++ map (λ f. form_value f s) added) ++ xs
longer_gives s olds added more xs h =
    let value : IntForm → ℤ = λ f. form_value f s in
    ap (λ (fs : List IntForm). olds ++ map value fs) h.is
    ∙ ap (λ (ys : List ℤ). olds ++ ys) (map_both value added h.tail)
    ∙ ap (λ (ys : List ℤ). olds ++ (map value added ++ ys)) (constants_are s xs h.tail h.constants)
    ∙ sym (append_assoc olds (map value added) xs)

int_form_gives : (s : State) (old : Cell) (x : ℤ) (g : Form) → IsIntForm (IsConstant x) g → cell_at g s old ≡ cell.Int x
int_form_gives s old x (form.Enum f) h = absurd h
int_form_gives s old x (form.Int (number.Const n)) h = ap cell.Int h
int_form_gives s old x (form.Int (number.Line line)) h = absurd h
int_form_gives s old x (form.Hold f) h = absurd h
int_form_gives s old x (form.Nums added) h = absurd h
int_form_gives s old x (form.Words added) h = absurd h

nums_form_gives : (s : State) (old : Cell) (added : List IntForm) (xs : List ℤ) (g : Form) → IsNumsForm (IsLonger added xs) g → cell_at g s old ≡ cell.Nums ((cell_nums (Some old) ++ map (λ f. form_value f s) added) ++ xs)
nums_form_gives s old added xs (form.Enum f) h = absurd h
nums_form_gives s old added xs (form.Int f) h = absurd h
nums_form_gives s old added xs (form.Hold f) h = absurd h
nums_form_gives s old added xs (form.Nums more) h = ap cell.Nums (longer_gives s (cell_nums (Some old)) added more xs h)
nums_form_gives s old added xs (form.Words ts) h = absurd h

form_gives : (f : Form) (c : Cell) (g : Form) (s : State) (old : Cell) → HasListForm f c → IsFormOf f c g → cell_at g s old ≡ in_front (cell_at f s old) c
form_gives f (cell.Enum l) g s old k h = rw h refl
form_gives f (cell.Int x) g s old k h = int_form_gives s old x g h
form_gives f (cell.Hold parts) g s old k h = rw h refl
form_gives (form.Enum f) (cell.Nums xs) g s old k h = absurd k
form_gives (form.Int f) (cell.Nums xs) g s old k h = absurd k
form_gives (form.Hold f) (cell.Nums xs) g s old k h = absurd k
form_gives (form.Nums added) (cell.Nums xs) g s old k h = nums_form_gives s old added xs g h
form_gives (form.Words added) (cell.Nums xs) g s old k h = absurd k
form_gives (form.Enum f) (cell.Words ts) g s old k h = absurd k
form_gives (form.Int f) (cell.Words ts) g s old k h = absurd k
form_gives (form.Hold f) (cell.Words ts) g s old k h = absurd k
form_gives (form.Nums added) (cell.Words ts) g s old k h = absurd k
form_gives (form.Words added) (cell.Words ts) g s old k h = rw h (ap cell.Words (sym (append_assoc (cell_words (Some old)) added ts)))

-- ---- forms that fit

constant_fits : (when : List Part) (lo hi x : ℤ) (f : IntForm) → IsConstant x f → InRange lo hi x → NumberFits lo hi when f
constant_fits when lo hi x (number.Const n) e h = let P : ℤ → Type 0 = InRange lo hi in subst P (sym e) h
constant_fits when lo hi x (number.Line line) e h = absurd e

int_form_fits : (p : ScriptPlan) (when : List Part) (lo hi first : ℤ) (clamp : _) (x : ℤ) (g : Form) → InRange lo hi x → IsIntForm (IsConstant x) g → FormFits p when (plan.Int lo hi first clamp) g
int_form_fits p when lo hi first clamp x (form.Enum f) r h = absurd h
int_form_fits p when lo hi first clamp x (form.Int f) r h = fitting.of_number lo hi first f (constant_fits when lo hi x f h r)
int_form_fits p when lo hi first clamp x (form.Hold f) r h = absurd h
int_form_fits p when lo hi first clamp x (form.Nums added) r h = absurd h
int_form_fits p when lo hi first clamp x (form.Words added) r h = absurd h

longer_fits : (when : List Part) (lo hi : ℤ) (added : List IntForm) (xs : List ℤ) (more : List IntForm) → All (NumberFits lo hi when) added → All (InRange lo hi) xs → IsLonger added xs more → All (NumberFits lo hi when) more
longer_fits when lo hi added xs more h r k =
    subst (λ (fs : List IntForm). All (NumberFits lo hi when) fs) (sym k.is)
    (All-append (NumberFits lo hi when) added k.tail h
    (zip_all IsConstant (InRange lo hi) (NumberFits lo hi when) xs k.tail (λ x f e i. constant_fits when lo hi x f e i) k.constants r))

nums_form_fits : (p : ScriptPlan) (when : List Part) (lo hi : ℤ) (clamp : _) (added : List IntForm) (xs : List ℤ) (g : Form) → All (NumberFits lo hi when) added → All (InRange lo hi) xs → IsNumsForm (IsLonger added xs) g → FormFits p when (plan.Nums lo hi clamp) g
nums_form_fits p when lo hi clamp added xs (form.Enum f) a r h = absurd h
nums_form_fits p when lo hi clamp added xs (form.Int f) a r h = absurd h
nums_form_fits p when lo hi clamp added xs (form.Hold f) a r h = absurd h
nums_form_fits p when lo hi clamp added xs (form.Nums more) a r h = fitting.of_numbers lo hi more (longer_fits when lo hi added xs more a r h)
nums_form_fits p when lo hi clamp added xs (form.Words ts) a r h = absurd h

-- The numbers that a form adds fit.
added_fit : (p : ScriptPlan) (when : List Part) (cp : CellPlan) (f : Form) → FormFits p when cp f → (lo hi : ℤ) (clamp : _) → cp ≡ plan.Nums lo hi clamp → All (NumberFits lo hi when) (added_nums f)
added_fit p when _ _ (fitting.of_label of first l h) lo hi clamp e = absurd (cc)
added_fit p when _ _ (fitting.copied_label of first c h) lo hi clamp e = absurd (cc)
added_fit p when _ _ (fitting.of_number lo' hi' first f h) lo hi clamp e = absurd (cc)
added_fit p when _ _ (fitting.of_parts kinds first parts h) lo hi clamp e = absurd (cc)
added_fit p when _ _ (fitting.copied_parts kinds first c h) lo hi clamp e = absurd (cc)
added_fit p when _ _ (fitting.of_numbers lo' hi' added h) lo hi clamp e =
    let low : lo' ≡ lo = cc in
    let high : hi' ≡ hi = cc in
    subst (λ (a : ℤ). All (NumberFits a hi when) added) low (subst (λ (b : ℤ). All (NumberFits lo' b when) added) high h)
added_fit p when _ _ (fitting.of_words added) lo hi clamp e = absurd (cc)

form_fits : (p : ScriptPlan) (when : List Part) (cp : CellPlan) (f : Form) (c : Cell) (g : Form) → FormFits p when cp f → IsValidCell p.enums cp c → IsFormOf f c g → FormFits p when cp g
form_fits p when _ f _ g fits (valid.int lo hi first clamp x h) e = int_form_fits p when lo hi first clamp x g h e
form_fits p when _ f _ g fits (valid.nums lo hi clamp xs h) e = nums_form_fits p when lo hi clamp (added_nums f) xs g (added_fit p when (plan.Nums lo hi clamp) f fits lo hi clamp refl) h e
form_fits p when _ f _ g fits (valid.words ts) e = rw e (fitting.of_words (added_words f ++ ts))
form_fits p when _ f _ g fits (valid.hold kinds first parts h) e = rw e (fitting.of_parts kinds first parts h)
form_fits p when _ f _ g fits (valid.enum of first l h) e = rw e (fitting.of_label of first l h)

-- ---- forms that are taken on the constraint

constant_taken : (when : List Part) (x : ℤ) (f : IntForm) → IsConstant x f → NumberIsTakenTo when f f
constant_taken when x (number.Const n) e = record { one = λ c y at one. absurd (cc); more = λ none. refl }
constant_taken when x (number.Line line) e = absurd e

constants_taken : (when : List Part) (xs : List ℤ) (fs : List IntForm) → AllZip IsConstant xs fs → AllZip (NumberIsTakenTo when) fs fs
constants_taken when [] [] h = tt
constants_taken when [] (f ∷ fs) h = absurd h
constants_taken when (x ∷ xs) [] h = absurd h
constants_taken when (x ∷ xs) (f ∷ fs) h = (constant_taken when x f h.0, constants_taken when xs fs h.1)

both_taken : (when : List Part) (fs gs : List IntForm) → AllZip (NumberIsTakenTo when) fs fs → AllZip (NumberIsTakenTo when) gs gs → AllZip (NumberIsTakenTo when) (fs ++ gs) (fs ++ gs)
both_taken when [] gs h k = k
both_taken when (f ∷ fs) gs h k = (h.0, both_taken when fs gs h.1 k)

added_taken : (when : List Part) (f : Form) → IsTakenOn when f → AllZip (NumberIsTakenTo when) (added_nums f) (added_nums f)
added_taken when (form.Enum f) h = tt
added_taken when (form.Int f) h = tt
added_taken when (form.Hold f) h = tt
added_taken when (form.Nums added) h = h
added_taken when (form.Words added) h = tt

int_form_taken : (when : List Part) (x : ℤ) (g : Form) → IsIntForm (IsConstant x) g → IsTakenOn when g
int_form_taken when x (form.Enum f) h = absurd h
int_form_taken when x (form.Int f) h = constant_taken when x f h
int_form_taken when x (form.Hold f) h = absurd h
int_form_taken when x (form.Nums added) h = absurd h
int_form_taken when x (form.Words added) h = absurd h

longer_taken : (when : List Part) (added : List IntForm) (xs : List ℤ) (more : List IntForm) → AllZip (NumberIsTakenTo when) added added → IsLonger added xs more → AllZip (NumberIsTakenTo when) more more
longer_taken when added xs more h k =
    subst (λ (fs : List IntForm). AllZip (NumberIsTakenTo when) fs fs) (sym k.is) (both_taken when added k.tail h (constants_taken when xs k.tail k.constants))

nums_form_taken : (when : List Part) (added : List IntForm) (xs : List ℤ) (g : Form) → AllZip (NumberIsTakenTo when) added added → IsNumsForm (IsLonger added xs) g → IsTakenOn when g
nums_form_taken when added xs (form.Enum f) a h = absurd h
nums_form_taken when added xs (form.Int f) a h = absurd h
nums_form_taken when added xs (form.Hold f) a h = absurd h
nums_form_taken when added xs (form.Nums more) a h = longer_taken when added xs more a h
nums_form_taken when added xs (form.Words ts) a h = absurd h

label_taken : (when : List Part) (l : ℕ) → LabelIsTakenTo when (label.Const l) (label.Const l)
label_taken when l = record { one = λ c m at one. absurd (cc); more = λ none. refl }

form_taken : (when : List Part) (f : Form) (c : Cell) (g : Form) → IsTakenOn when f → IsFormOf f c g → IsTakenOn when g
form_taken when f (cell.Enum l) g t e = subst (λ (x : Form). IsTakenOn when x) (sym e) (label_taken when l)
form_taken when f (cell.Int x) g t e = int_form_taken when x g e
form_taken when f (cell.Hold parts) g t e = subst (λ (x : Form). IsTakenOn when x) (sym e) refl
form_taken when f (cell.Nums xs) g t e = nums_form_taken when (added_nums f) xs g (added_taken when f t) e
form_taken when f (cell.Words ts) g t e = subst (λ (x : Form). IsTakenOn when x) (sym e) refl

-- ---- all cells

module _ (p : ScriptPlan) (when : List Part) where
  forms_give : (s : State) (cps : List CellPlan) (forms : List Form) (cells : List Cell) (gs : List Form) (olds : List Cell) → AllZip (FormFits p when) cps forms → AllZip (IsValidCell p.enums) cps cells → AllZip (IsValidCell p.enums) cps olds → AreFormsOf forms cells gs →
      cells_at gs s olds ≡ with_fronts (cells_at forms s olds) cells
  forms_give s [] [] [] [] olds f v o h = refl
  forms_give s [] [] [] (g ∷ gs) olds f v o h = absurd h
  forms_give s [] [] (c ∷ cells) gs olds f v o h = absurd v
  forms_give s [] (x ∷ forms) cells gs olds f v o h = absurd f
  forms_give s (cp ∷ cps) [] cells gs olds f v o h = absurd f
  forms_give s (cp ∷ cps) (x ∷ forms) [] gs olds f v o h = absurd v
  forms_give s (cp ∷ cps) (x ∷ forms) (c ∷ cells) [] olds f v o h = absurd h
  forms_give s (cp ∷ cps) (x ∷ forms) (c ∷ cells) (g ∷ gs) [] f v o h = absurd o
  forms_give s (cp ∷ cps) (x ∷ forms) (c ∷ cells) (g ∷ gs) (old ∷ olds) f v o h =
      ap₂ (λ (d : Cell) (ds : List Cell). d ∷ ds) (form_gives x c g s old (list_form p when cp x c f.0 v.0) h.0) (forms_give s cps forms cells gs olds f.1 v.1 o.1 h.1)

  forms_fit : (cps : List CellPlan) (forms : List Form) (cells : List Cell) (gs : List Form) → AllZip (FormFits p when) cps forms → AllZip (IsValidCell p.enums) cps cells → AreFormsOf forms cells gs → AllZip (FormFits p when) cps gs
  forms_fit [] [] [] [] f v h = tt
  forms_fit [] [] [] (g ∷ gs) f v h = absurd h
  forms_fit [] [] (c ∷ cells) gs f v h = absurd v
  forms_fit [] (x ∷ forms) cells gs f v h = absurd f
  forms_fit (cp ∷ cps) [] cells gs f v h = absurd f
  forms_fit (cp ∷ cps) (x ∷ forms) [] gs f v h = absurd v
  forms_fit (cp ∷ cps) (x ∷ forms) (c ∷ cells) [] f v h = absurd h
  forms_fit (cp ∷ cps) (x ∷ forms) (c ∷ cells) (g ∷ gs) f v h = (form_fits p when cp x c g f.0 v.0 h.0, forms_fit cps forms cells gs f.1 v.1 h.1)

  forms_taken : (forms : List Form) (cells : List Cell) (gs : List Form) → All (IsTakenOn when) forms → AreFormsOf forms cells gs → All (IsTakenOn when) gs
  forms_taken [] [] [] t h = All-nil (IsTakenOn when)
  forms_taken [] [] (g ∷ gs) t h = absurd h
  forms_taken [] (c ∷ cells) gs t h = absurd h
  forms_taken (x ∷ forms) [] gs t h = absurd h
  forms_taken (x ∷ forms) (c ∷ cells) [] t h = absurd h
  forms_taken (x ∷ forms) (c ∷ cells) (g ∷ gs) t h = All-cons (IsTakenOn when) g gs (form_taken when x c g (All-head (IsTakenOn when) x forms t) h.0) (forms_taken forms cells gs (All-tail (IsTakenOn when) x forms t) h.1)

  end_gives : (s : State) (old : PathEnd) (o : Outcome) (new : PathEnd) → IsValid p s → EndFits p when old → IsValidOutcome p o → StaysEnded old o → IsEndOf old o new → end_at new s ≡ outcome_fronted (given_cells old s) o
  end_gives s old (outcome.Ended fault) new i f v e h = rw h refl
  end_gives s (Next forms) (Going later) (Next gs) i f v e h = ap (λ (cells : List Cell). Going (record { cells = cells })) (forms_give s p.cells forms later.cells gs s.cells f.each v i h)
  end_gives s (Next forms) (Going later) (Ended fault) i f v e h = absurd h
  end_gives s (Ended fault) (Going later) new i f v e h = absurd (cc)

  end_fits : (old : PathEnd) (o : Outcome) (new : PathEnd) → EndFits p when old → IsValidOutcome p o → FitsOutcome p o → StaysEnded old o → IsEndOf old o new → EndFits p when new
  end_fits old (outcome.Ended fault) new f v t e h = subst (λ (x : PathEnd). EndFits p when x) (sym h) t
  end_fits (Next forms) (Going later) (Next gs) f v t e h = record {
    each = forms_fit p.cells forms later.cells gs f.each v h;
    taken = forms_taken forms later.cells gs f.taken h;
  }
  end_fits (Next forms) (Going later) (Ended fault) f v t e h = absurd h
  end_fits (Ended fault) (Going later) new f v t e h = absurd (cc)

end_among : (records : List Record) (old : PathEnd) (o : Outcome) (new : PathEnd) → EndedAmong records o → IsEndOf old o new → EndsAmong records new
end_among records old (outcome.Ended fault) new a h = subst (λ (x : PathEnd). EndsAmong records x) (sym h) a
end_among records old (Going later) (Next gs) a h = tt
end_among records old (Going later) (Ended fault) a h = absurd h

if_same : (b : Bool) (x y : Outcome) → x ≡ y → (if b then x ∷ [] else []) ≡ (if b then y ∷ [] else [])
if_same b x y e = ap (λ (o : Outcome). if b then o ∷ [] else []) e

one_gives : (p : ScriptPlan) (k : KnownPath) (path : Path) (s : State) → KnownFits p k → IsValid p s → IsClosed k path → given (test_truth p.tests) path s ≡ known_given (test_truth p.tests) k s
one_gives p k path s fits v h =
    rw h.when
    (if_same (admits (test_truth p.tests) k.path.when s.cells) (end_at path.end s) (known_at k s)
    (end_gives p k.path.when s k.path.end k.outcome path.end v fits.path.end fits.valid fits.ended h.end))

all_give : (p : ScriptPlan) (known : List KnownPath) (paths : List Path) (s : State) → AllFit p known → IsValid p s → AllZip IsClosed known paths → outcomes (test_truth p.tests) paths s ≡ known_outcomes (test_truth p.tests) known s
all_give p [] [] s fits v h = refl
all_give p [] (path ∷ paths) s fits v h = absurd h
all_give p (k ∷ known) [] s fits v h = absurd h
all_give p (k ∷ known) (path ∷ paths) s fits v h =
    ap₂ (λ (xs ys : List Outcome). xs ++ ys) (one_gives p k path s (All-head (KnownFits p) k known fits) v h.0) (all_give p known paths s (All-tail (KnownFits p) k known fits) v h.1)

one_fits : (p : ScriptPlan) (k : KnownPath) (path : Path) → IsClosed k path → KnownFits p k → PathFits p path
one_fits p k path h fits = record {
  parts = rw h.when fits.path.parts;
  end = rw h.when (end_fits p k.path.when k.path.end k.outcome path.end fits.path.end fits.valid fits.fits fits.ended h.end);
}

pub closed_fit : (p : ScriptPlan) (known : List KnownPath) (paths : List Path) → AllFit p known → AllZip IsClosed known paths → SegmentFits p paths
closed_fit p known paths fits h = zip_all IsClosed (KnownFits p) (PathFits p) known paths (λ k path c f. one_fits p k path c f) h fits

pub closed_stand : (p : ScriptPlan) (records : List Record) (known : List KnownPath) (paths : List Path) → AllFit p known → AllZip IsClosed known paths → KnownStandsFor p records known → StandsFor p records paths
closed_stand p records known paths fits h stand = record {
  fits = closed_fit p known paths fits h;
  faults =
      zip_all IsClosed (λ (k : KnownPath). EndedAmong records k.outcome) (λ (path : Path). EndsAmong records path.end) known paths
      (λ k path c a. end_among records k.path.end k.outcome path.end a c.end) h stand.faults;
  exact = λ s v. (only_outcome (test_truth p.tests) paths s (after p records (Going s))).0 (all_give p known paths s fits v h ∙ stand.exact s v);
}

-- ---- which can be closed

cell_numbers : (enums : List EnumPlan) (cp : CellPlan) (c : Cell) → IsCell enums cp → IsValidCell enums cp c → HasScriptNumbers c
cell_numbers enums _ _ w (valid.int lo hi first clamp x h) = number_between lo hi x w.0 w.1 h
cell_numbers enums _ _ w (valid.nums lo hi clamp xs h) = all_from IsNumber xs (λ i x e. number_between lo hi x w.0 w.1 (all_at (InRange lo hi) xs i x h e))
cell_numbers enums _ _ w (valid.words ts) = tt
cell_numbers enums _ _ w (valid.hold kinds first parts h) = tt
cell_numbers enums _ _ w (valid.enum of first l h) = tt

outcome_can : (p : ScriptPlan) → IsWellFormed p → (when : List Part) (end : PathEnd) (o : Outcome) → EndFits p when end → IsValidOutcome p o → StaysEnded end o → CanClose (length (forms_of end)) o
outcome_can p w when end (outcome.Ended fault) f v e = tt
outcome_can p w when (Next forms) (Going s) f v e =
    let one : length p.cells ≡ length forms = zip_length (FormFits p when) p.cells forms f.each in
    let two : length p.cells ≡ length s.cells = zip_length (IsValidCell p.enums) p.cells s.cells v in
    (sym one ∙ two, zip_all (IsValidCell p.enums) (IsCell p.enums) HasScriptNumbers p.cells s.cells (λ cp c i well. cell_numbers p.enums cp c well i) v w.cells)
outcome_can p w when (Ended fault) (Going s) f v e = absurd (cc)

pub all_can : (p : ScriptPlan) → IsWellFormed p → (known : List KnownPath) → AllFit p known → All CanBeClosed known
all_can p w [] h = All-nil CanBeClosed
all_can p w (k ∷ known) h =
    let one : KnownFits p k = All-head (KnownFits p) k known h in
    All-cons CanBeClosed k known (outcome_can p w k.path.when k.path.end k.outcome one.path.end one.valid one.ended) (all_can p w known (All-tail (KnownFits p) k known h))

-- ---- loops

-- A number as it is stored.
pub stored_number : (x : ℤ) → IsNumber x → to_z w64 (of_z w64 x) ≡ x
stored_number x h = let fits : SFits w64 x = search rules in to_z-of_z w64 x fits

pub longer_none : (added : List IntForm) → IsLonger added [] added
longer_none added = record { tail = []; is = sym (append-nil added); constants = tt }

pub longer_push : (added : List IntForm) (xs : List ℤ) (x : ℤ) (more : List IntForm) (f : IntForm) → IsLonger added xs more → IsConstant x f → IsLonger added (xs ++ x ∷ []) (more ++ f ∷ [])
longer_push added xs x more f h e = record {
  tail = h.tail ++ f ∷ [];
  is = ap (λ (fs : List IntForm). fs ++ f ∷ []) h.is ∙ append_assoc added h.tail (f ∷ []);
  constants = zip_both IsConstant xs h.tail x f e h.constants;
}

-- So many of the forms have become those of their cells.
pub record FormsSoFar (forms : List Form) (cells : List Cell) (count : ℕ) (gs : List Form) : Type 0 where
  pub long : length gs ≡ count
  pub each : (i : ℕ) (f : Form) (c : Cell) (g : Form) → slice_get forms i ≡ Some f → slice_get cells i ≡ Some c → slice_get gs i ≡ Some g → IsFormOf f c g

pub forms_push : (forms : List Form) (cells : List Cell) (n : ℕ) (gs all : List Form) (f : Form) (c : Cell) (g : Form) → slice_get forms n ≡ Some f → slice_get cells n ≡ Some c → all ≡ gs ++ g ∷ [] → IsFormOf f c g → FormsSoFar forms cells n gs → FormsSoFar forms cells (n + 1) all
forms_push forms cells n gs all f c g at beside pushed is h = record {
  long = omega (arith, ap length pushed, h.long, length-append gs (g ∷ []));
  each = λ i f' c' g' e1 e2 e3. elim (push_cases gs g i g' (sym (ap (λ (xs : List Form). slice_get xs i) pushed) ∙ e3)) [
    | inl old ↦ h.each i f' c' g' e1 e2 old.1
    | inr last ↦
        let here : i ≡ n = last.0 ∙ h.long in
        let one : Some f' ≡ Some f = sym e1 ∙ (ap (slice_get forms) here ∙ at) in
        let two : Some c' ≡ Some c = sym e2 ∙ (ap (slice_get cells) here ∙ beside) in
        let first : f ≡ f' = cc in
        let second : c ≡ c' = cc in
        subst (λ (x : Form). IsFormOf x c' g') first (subst (λ (y : Cell). IsFormOf f y g') second (subst (λ (z : Form). IsFormOf f c z) (sym last.1) is))
  ];
}

forms_whole : (forms : List Form) (cells : List Cell) (gs : List Form) → length forms ≡ length cells → length gs ≡ length forms → ((i : ℕ) (f : Form) (c : Cell) (g : Form) → slice_get forms i ≡ Some f → slice_get cells i ≡ Some c → slice_get gs i ≡ Some g → IsFormOf f c g) → AreFormsOf forms cells gs
forms_whole [] [] [] one two h = tt
forms_whole [] [] (g ∷ gs) one two h = absurd (omega (arith, two))
forms_whole [] (c ∷ cells) gs one two h = absurd (omega (arith, one))
forms_whole (f ∷ forms) [] gs one two h = absurd (omega (arith, one))
forms_whole (f ∷ forms) (c ∷ cells) [] one two h = absurd (omega (arith, two))
forms_whole (f ∷ forms) (c ∷ cells) (g ∷ gs) one two h = (h 0 f c g refl refl refl, forms_whole forms cells gs (omega (arith, one)) (omega (arith, two)) (λ i. h (suc i)))

pub forms_done : (forms : List Form) (cells : List Cell) (n : ℕ) (gs : List Form) → length forms ≡ length cells → n ≡ length forms → FormsSoFar forms cells n gs → AreFormsOf forms cells gs
forms_done forms cells n gs one two h = forms_whole forms cells gs one (h.long ∙ two) h.each

-- The known path of one that is placed can be closed, where all can.
pub can_at : (os : List Outcome) (placed : List Placed) (i : ℕ) (x : Placed) → i < length placed → x ≡ get_or placed i x → All CanBeClosed (map (known_in os) placed) → CanBeClosed (known_in os x)
can_at os placed i x below is h =
    let at : slice_get placed i ≡ Some x = slice_get_read placed (length placed) i x refl below is in
    all_at CanBeClosed (map (known_in os) placed) i (known_in os x) h (slice_get-map (known_in os) placed i ∙ ap (option_map (known_in os)) at)

-- One path more is closed.
pub closed_push : (os : List Outcome) (placed : List Placed) (x : Placed) (paths all : List Path) (path : Path) → IsClosed (known_in os x) path → all ≡ paths ++ path ∷ [] → AllZip IsClosed (map (known_in os) placed) paths → AllZip IsClosed (map (known_in os) (placed ++ x ∷ [])) all
closed_push os placed x paths all path is pushed h =
    let both : AllZip IsClosed (map (known_in os) placed ++ known_in os x ∷ []) (paths ++ path ∷ []) = zip_both IsClosed (map (known_in os) placed) paths (known_in os x) path is h in
    subst (λ (ks : List KnownPath). AllZip IsClosed ks all) (sym (map_both (known_in os) placed (x ∷ [])))
    (subst (λ (ps : List Path). AllZip IsClosed (map (known_in os) placed ++ known_in os x ∷ []) ps) (sym pushed) both)
