-- A hold cell's parts given new values.
use Rattle.std.proofs.Common.{◌≡◌, ℕ, List, ap}
use Rattle.std.specs.Prelude.{Result, Ok, Err}
use Rattle.sym_base.specs.declared.values.value.Value.{Value}
use Rattle.sym_base.specs.declared.values.state.Cell.TheVariants as cell
use Rattle.sym_base.specs.declared.values.state.FaultKind.{FaultKind}
use Rattle.sym_base.specs.declared.values.state.State.{State}
use Rattle.sym_base.specs.States.{with_cell}
use Rattle.sym_check.proofs.ValidSteps.{all_fixed_are}
use Rattle.sym_check.specs.declared.evaluate.arithmetic.Arith.{Arith}
use Rattle.sym_check.specs.Meaning.Arithmetic.{and_then}
use Rattle.sym_check.specs.Meaning.Conditions.{test_truth}
use Rattle.sym_check.specs.Plan.DoPlans.{Keep}
use Rattle.sym_check.specs.Plan.FixedPlans.{FixedPlan}
use Rattle.sym_check.specs.Meaning.FixedValues.{Environment, fixed_values}
use Rattle.sym_check.specs.Plan.ScriptPlans.{ScriptPlan}
use Rattle.sym_check.specs.Meaning.Updates.{or_fault}
use Rattle.sym_check.specs.Plan.WellFormed.{IsDo, IsKept, Kinds}
use Rattle.sym_check.specs.Plan.WellFormed as well
use Rattle.sym_pred.specs.declared.form.HoldForm.TheVariants as hold
use Rattle.sym_path.proofs.Changed.{forms_give}
use Rattle.sym_path.specs.declared.form.Form.TheVariants as form
use Rattle.sym_path.specs.declared.path.Path.{Path}
use Rattle.sym_path.specs.Changing.{with_form}
use Rattle.sym_path.specs.Fitting.{PathFits}
use Rattle.sym_explore.specs.Knowing.{DoIsKnown}
use Rattle.sym_explore.specs.Stepping.{Becomes, after_do}
use Rattle.sym_explore.proofs.AssignedFits.{parts_fit}
use Rattle.sym_explore.proofs.AssignedPaths.{becomes_step}

is_kept : (p : ScriptPlan) (k later : Kinds) (c : ℕ) (es : List FixedPlan) → IsDo p k (Keep c es) later → IsKept p k c es
is_kept p _ _ _ _ (well.keep k c es h) = h

values_are : (r : Result (List Value) Arith) (parts : List Value) → or_fault r ≡ Ok parts → r ≡ Ok parts
values_are (Ok xs) parts e = let same : xs ≡ parts = cc in cc
values_are (Err x) parts e = absurd (cc)

abbrev with_parts : State → ℕ → List Value → Result State FaultKind
with_parts s c parts = Ok (with_cell s c (cell.Hold parts))

module _ (p : ScriptPlan) (k : Environment) (n c : ℕ) (es : List FixedPlan) (path : Path) where
  -- The values are those of the parts.
  pub parts_kept : (parts : List Value) → or_fault (fixed_values k es) ≡ Ok parts → Becomes p (after_do p k n (Keep c es)) path (with_form path c (form.Hold (hold.Const parts)))
  parts_kept parts e =
      becomes_step p k n (Keep c es) (λ t. with_cell t c (cell.Hold parts)) path (with_form path c (form.Hold (hold.Const parts)))
      (λ s. ap (λ (r : Result (List Value) FaultKind). and_then (with_parts s c) r) e)
      (λ s. forms_give (test_truth p.tests) s path c (form.Hold (hold.Const parts)))

  pub parts_fit_kept : (parts : List Value) → PathFits p path → DoIsKnown p k (Keep c es) → or_fault (fixed_values k es) ≡ Ok parts → PathFits p (with_form path c (form.Hold (hold.Const parts)))
  parts_fit_kept parts fits known e =
      let kept : IsKept p known.kinds c es = is_kept p known.kinds known.later c es known.well in
      parts_fit p path c kept.parts parts fits kept.is_hold (all_fixed_are p.enums known.kinds k known.known kept.parts es parts kept.kept (values_are (fixed_values k es) parts e))
