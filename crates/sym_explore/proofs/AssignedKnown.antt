-- What well-formed assignments name.
use Rattle.std.proofs.Common.{◌≡◌, ℕ, List, Some, ap}
use Rattle.std.specs.Option.{option_and_then}
use Rattle.std.specs.Prelude.{slice_get}
use Rattle.sym_check.proofs.ValidSteps.{label_is}
use Rattle.sym_check.specs.declared.plan.expression.LabelOf.{LabelOf}
use Rattle.sym_check.specs.declared.plan.range.Range.{Range}
use Rattle.sym_check.specs.declared.plan.script.CellPlan.{CellPlan}
use Rattle.sym_check.specs.declared.plan.script.CellPlan.TheVariants as plan
use Rattle.sym_check.specs.Plan.CellKinds.{IsIntCell, IsNumsCell}
use Rattle.sym_check.specs.Plan.DoPlans.{PushNum, SetEnum, SetInt}
use Rattle.sym_check.specs.Meaning.FixedValues.{Environment, label_of}
use Rattle.sym_check.specs.Plan.LinePlans.{TermPlan}
use Rattle.sym_check.specs.Plan.Ranges.{range_at, range_of}
use Rattle.sym_check.specs.Plan.ScriptPlans.{ScriptPlan}
use Rattle.sym_check.specs.Plan.WellFormed.{IsDo, IsLabelOfCell, IsTerm, Kinds}
use Rattle.sym_check.specs.Plan.WellFormed as well
use Rattle.sym_explore.specs.Assigning.{HasLabel}
use Rattle.sym_explore.specs.Knowing.{DoIsKnown, TermIsKnown}

set_int_is : (p : ScriptPlan) (k later : Kinds) (c : ℕ) (t : TermPlan) → IsDo p k (SetInt c t) later → IsIntCell p.cells c × IsTerm p.cells k t
set_int_is p _ _ _ _ (well.set_int k c t cell term) = (cell, term)

push_num_is : (p : ScriptPlan) (k later : Kinds) (c : ℕ) (t : TermPlan) → IsDo p k (PushNum c t) later → IsNumsCell p.cells c × IsTerm p.cells k t
push_num_is p _ _ _ _ (well.push_num k c t cell term) = (cell, term)

set_enum_is : (p : ScriptPlan) (k later : Kinds) (c : ℕ) (l : LabelOf) → IsDo p k (SetEnum c l) later → IsLabelOfCell p k c l
set_enum_is p _ _ _ _ (well.set_enum k c l h) = h

-- The plan of an integer cell, and that of a list of numbers.
abbrev pub int_plan : {cells : List CellPlan} {c : ℕ} → IsIntCell cells c → CellPlan
int_plan cell = plan.Int cell.lo cell.hi cell.first cell.clamp

abbrev pub nums_plan : {cells : List CellPlan} {c : ℕ} → IsNumsCell cells c → CellPlan
nums_plan cell = plan.Nums cell.lo cell.hi cell.clamp

-- The range of the cell with this number is that of its plan.
pub same_range : (cells : List CellPlan) (c : ℕ) (a : CellPlan) (own found : Range) → slice_get cells c ≡ Some a → range_of a ≡ Some own → range_at cells c ≡ Some found → found ≡ own
same_range cells c a own found at of is = let there : range_at cells c ≡ range_of a = ap (option_and_then range_of) at in cc

module _ (p : ScriptPlan) (k : Environment) (c : ℕ) where
  pub set_cell : (t : TermPlan) → DoIsKnown p k (SetInt c t) → IsIntCell p.cells c
  set_cell t h = (set_int_is p h.kinds h.later c t h.well).0

  pub set_term : (t : TermPlan) → DoIsKnown p k (SetInt c t) → TermIsKnown p k t
  set_term t h = record { kinds = h.kinds; known = h.known; well = (set_int_is p h.kinds h.later c t h.well).1 }

  pub push_cell : (t : TermPlan) → DoIsKnown p k (PushNum c t) → IsNumsCell p.cells c
  push_cell t h = (push_num_is p h.kinds h.later c t h.well).0

  pub push_term : (t : TermPlan) → DoIsKnown p k (PushNum c t) → TermIsKnown p k t
  push_term t h = record { kinds = h.kinds; known = h.known; well = (push_num_is p h.kinds h.later c t h.well).1 }

  pub set_label_is : (l : LabelOf) → DoIsKnown p k (SetEnum c l) → HasLabel p c (label_of k l)
  set_label_is l h =
      let of : IsLabelOfCell p h.kinds c l = set_enum_is p h.kinds h.later c l h.well in
      record { of = of.enum; is_enum = of.of_cell; within = label_is p.enums h.kinds k of.enum h.known l of.is_label }
