-- What the cells hold after a path on which they are known.
use Rattle.std.proofs.Common.{◌≡◌, ℕ, ℤ, Bool, true, false, List, [], ◌∷◌, Some, refl, sym, ap, ◌∙◌, subst}
use Rattle.std.specs.Prelude.{slice_get, if◌then◌else◌, Result, Ok, Err}
use Rattle.sym_base.specs.States.{cell_label, cell_number, cell_parts, label_at, number_at, parts_at}
use Rattle.sym_base.specs.Tests.{Truth}
use Rattle.sym_base.specs.declared.values.value.Value.{Value}
use Rattle.sym_base.specs.declared.values.state.Cell.{Cell}
use Rattle.sym_base.specs.declared.values.state.State.{State}
use Rattle.sym_base.specs.declared.values.state.Outcome.TheVariants.{Going}
use Rattle.sym_base.specs.declared.values.state.FaultKind.TheVariants as fault
use Rattle.sym_check.specs.declared.evaluate.arithmetic.Arith.{Arith}
use Rattle.sym_check.specs.Meaning.Arithmetic.{and_then}
use Rattle.sym_check.specs.Meaning.Conditions.{test_truth}
use Rattle.sym_check.specs.Meaning.Updates.{or_fault}
use Rattle.sym_plain.specs.Running.{Gives}
use Rattle.sym_plain.specs.declared.update.stop.Stop.{Stop}
use Rattle.sym_plain.specs.declared.update.stop.Stop.TheVariants as stop
use Rattle.sym_check.specs.Plan.CellKinds.{IsEnumCell, IsHoldCell, IsIntCell}
use Rattle.sym_check.specs.Plan.ScriptPlans.{ScriptPlan}
use Rattle.sym_check.specs.declared.plan.script.CellPlan.{CellPlan}
use Rattle.sym_check.specs.declared.plan.script.CellPlan.TheVariants as plan
use Rattle.sym_check.specs.declared.plan.script.KindPlan.{KindPlan}
use Rattle.sym_enum.specs.declared.form.EnumForm.TheVariants as label
use Rattle.sym_int.specs.declared.form.IntForm.TheVariants as number
use Rattle.sym_int.specs.declared.form.Number.{Number}
use Rattle.sym_pred.specs.declared.form.HoldForm.TheVariants as hold
use Rattle.sym_path.proofs.Decided.{admits_decided}
use Rattle.sym_path.specs.declared.form.Form.{Form}
use Rattle.sym_path.specs.declared.form.Form.TheVariants as form
use Rattle.sym_path.specs.declared.path.PathEnd.{PathEnd}
use Rattle.sym_path.specs.declared.path.PathEnd.TheVariants.{Next}
use Rattle.sym_path.specs.declared.path.Path.{Path}
use Rattle.sym_path.specs.Admitting.{Admits, admits}
use Rattle.sym_path.specs.Changing.{form_of}
use Rattle.sym_path.specs.Fitting.{FormFits, FormsFit, PathFits}
use Rattle.sym_path.specs.Fitting as fitting
use Rattle.sym_path.specs.Giving.{cell_at, end_at, given, state_at}
use Rattle.sym_explore.proofs.AssignedFits.{going_fit, going_forms}
use Rattle.sym_explore.proofs.AssignedForms.{form_there, held}
use Rattle.sym_explore.proofs.AssignedKnown.{int_plan}
use Rattle.sym_explore.specs.Sure.{HoldsAfter, IsSure, IsSurePath}

form_is : (path : Path) (forms : List Form) (c : ℕ) → path.end ≡ Next forms → form_of path.end c ≡ slice_get forms c
form_is path forms c is = ap (λ (e : PathEnd). form_of e c) is

-- A state that a path makes which goes on with these forms.
came : (truth : Truth) (path : Path) (forms : List Form) (s later : State) → path.end ≡ Next forms → given truth path s ≡ Going later ∷ [] → Admits truth path.when s × (later ≡ state_at forms s)
came truth path forms s later is e = go (admits truth path.when s.cells) refl (ap (λ (end : PathEnd). if admits truth path.when s.cells then end_at end s ∷ [] else []) (sym is) ∙ e)
  where
    go : (b : Bool) → admits truth path.when s.cells ≡ b → (if b then Going (state_at forms s) ∷ [] else []) ≡ Going later ∷ [] → Admits truth path.when s × (later ≡ state_at forms s)
    go true a g =
        let same : Going (state_at forms s) ∷ [] ≡ Going later ∷ [] = g in
        ((admits_decided truth path.when s).0 a, cc)
    go false a g = absurd (cc)

module _ (p : ScriptPlan) (path : Path) (sure : IsSurePath p path) where
  -- The form of a cell of the script.
  sure_form : (c : ℕ) (kind : CellPlan) → slice_get p.cells c ≡ Some kind → (f : Form) × (form_of path.end c ≡ Some f) × FormFits p path.when kind f × IsSure f
  sure_form c kind at =
      let (forms, is) = going_forms path.end sure.goes_on in
      let (f, there, fit) = form_there p path.when forms c kind (going_fit p path forms sure.fits is) at in
      let own : form_of path.end c ≡ Some f = form_is path forms c is ∙ there in
      (f, own, fit, sure.sure c f own)

  -- What the cell holds then.
  cell_after : (c : ℕ) (kind : CellPlan) (f : Form) → slice_get p.cells c ≡ Some kind → form_of path.end c ≡ Some f → (s later : State) → given (test_truth p.tests) path s ≡ Going later ∷ [] → (x : Cell) × (slice_get later.cells c ≡ Some (cell_at f s x))
  cell_after c kind f at own s later e =
      let (forms, is) = going_forms path.end sure.goes_on in
      let (admitted, now) = came (test_truth p.tests) path forms s later is e in
      let there : slice_get forms c ≡ Some f = sym (form_is path forms c is) ∙ own in
      let (x, at_x, holds) = held (test_truth p.tests) p path s sure.fits forms is admitted c kind f at there in
      (x, ap (λ (t : State). slice_get t.cells c) now ∙ holds)

  -- An integer cell is a number.
  pub sure_number : (c : ℕ) → IsIntCell p.cells c → (n : Number) × (form_of path.end c ≡ Some (form.Int (number.Const n)))
  sure_number c cell =
      let (f, own, fit, known) = sure_form c (int_plan cell) cell.is in
      let (n, is) = go cell.lo cell.hi cell.first f fit known in
      (n, own ∙ ap (λ (g : Form). Some g) is)
    where
      go : (lo hi first : ℤ) {clamp : Bool} (f : Form) → FormFits p path.when (plan.Int lo hi first clamp) f → IsSure f → (n : Number) × (f ≡ form.Int (number.Const n))
      go _ _ _ _ (fitting.of_number lo hi first (number.Const n) h) known = (n, refl)
      go _ _ _ _ (fitting.of_number lo hi first (number.Line line) h) known = absurd (cc)

  pub number_after : (c : ℕ) (n : Number) → IsIntCell p.cells c → form_of path.end c ≡ Some (form.Int (number.Const n)) → HoldsAfter p path (λ s. number_at s c ≡ n.value)
  number_after c n cell own s later e =
      let (x, holds) = cell_after c (int_plan cell) (form.Int (number.Const n)) cell.is own s later e in
      ap cell_number holds

  -- An enum cell is a label.
  pub sure_label : (c of : ℕ) → IsEnumCell p.cells c of → (l : ℕ) × (form_of path.end c ≡ Some (form.Enum (label.Const l)))
  sure_label c of cell =
      let (f, own, fit, known) = sure_form c (plan.Enum of cell.first) cell.is in
      let (l, is) = go of cell.first f fit known in
      (l, own ∙ ap (λ (g : Form). Some g) is)
    where
      go : (of first : ℕ) (f : Form) → FormFits p path.when (plan.Enum of first) f → IsSure f → (l : ℕ) × (f ≡ form.Enum (label.Const l))
      go _ _ _ (fitting.of_label of first l h) known = (l, refl)
      go _ _ _ (fitting.copied_label of first c h) known = absurd known

  pub label_after : (c of l : ℕ) → IsEnumCell p.cells c of → form_of path.end c ≡ Some (form.Enum (label.Const l)) → HoldsAfter p path (λ s. label_at s c ≡ l)
  label_after c of l cell own s later e =
      let (x, holds) = cell_after c (plan.Enum of cell.first) (form.Enum (label.Const l)) cell.is own s later e in
      ap cell_label holds

  -- A hold cell is its parts.
  pub sure_parts : (c : ℕ) (kinds : List KindPlan) → IsHoldCell p.cells c kinds → (parts : List Value) × (form_of path.end c ≡ Some (form.Hold (hold.Const parts)))
  sure_parts c kinds cell =
      let (f, own, fit, known) = sure_form c (plan.Hold kinds cell.first) cell.is in
      let (parts, is) = go kinds cell.first f fit known in
      (parts, own ∙ ap (λ (g : Form). Some g) is)
    where
      go : (kinds : List KindPlan) (first : List Value) (f : Form) → FormFits p path.when (plan.Hold kinds first) f → IsSure f → (parts : List Value) × (f ≡ form.Hold (hold.Const parts))
      go _ _ _ (fitting.of_parts kinds first parts h) known = (parts, refl)
      go _ _ _ (fitting.copied_parts kinds first c h) known = absurd known

  pub parts_after : (c : ℕ) (kinds : List KindPlan) (parts : List Value) → IsHoldCell p.cells c kinds → form_of path.end c ≡ Some (form.Hold (hold.Const parts)) → HoldsAfter p path (λ s. parts_at s c ≡ parts)
  parts_after c kinds parts cell own s later e =
      let (x, holds) = cell_after c (plan.Hold kinds cell.first) (form.Hold (hold.Const parts)) cell.is own s later e in
      ap cell_parts holds

-- ---- the truth of conditions

-- A fault of a part is that of the whole.
pub err_gives : {A B : Type 0} (e : Stop) (r : Result A Arith) (f : A → Result B Arith) → Gives (Err e) (or_fault r) → Gives (Err e) (or_fault (and_then f r))
err_gives (stop.Fault kind) (Ok x) f h = absurd (cc)
err_gives (stop.Fault kind) (Err a) f h = let same : Err fault.Arith ≡ Err kind = h in cc
err_gives stop.NoMemory r f h = tt

-- What is done with the value of a part.
pub ok_gives : {A B : Type 0} (x : A) (r : Result A Arith) (f : A → Result B Arith) (got : Result B Stop) → Gives (Ok x) (or_fault r) → Gives got (or_fault (f x)) → Gives got (or_fault (and_then f r))
ok_gives {A} {B} x (Ok y) f got h k = let given : Ok y ≡ Ok x = h in let same : x ≡ y = cc in subst (λ (z : A). Gives got (or_fault (f z))) same k
ok_gives x (Err a) f got h k = absurd (cc)
