-- States and outcomes that fit a plan: of the declared kinds, whatever values they hold.
use Rattle.std.specs.Prelude.{ℕ, ℤ, Bool, List, IsSome}
use Rattle.std.specs.List.{AllZip}
use Rattle.sym_base.specs.declared.values.value.Value.{Value}
use Rattle.sym_base.specs.declared.values.state.Cell.{Cell}
use Rattle.sym_base.specs.declared.values.state.Cell.TheVariants as cell
use Rattle.sym_base.specs.declared.values.state.State.{State}
use Rattle.sym_base.specs.declared.values.state.FaultKind.{FaultKind}
use Rattle.sym_base.specs.declared.values.state.FaultKind.TheVariants as fault
use Rattle.sym_base.specs.declared.values.state.Outcome.{Outcome}
use Rattle.sym_base.specs.declared.values.state.Outcome.TheVariants.{Going, Ended}
use Rattle.sym_check.specs.declared.plan.script.KindPlan.{KindPlan}
use Rattle.sym_check.specs.declared.plan.script.CellPlan.{CellPlan}
use Rattle.sym_check.specs.declared.plan.script.CellPlan.TheVariants as plan
use Rattle.sym_check.specs.Plan.ScriptPlans.{ScriptPlan}
use Rattle.sym_check.specs.Plan.Ranges.{range_at}

-- A cell is of its declared kind, whatever values it holds.
pub data FitsCell : CellPlan → Cell → Type 0 where
  int : (lo hi first : ℤ) (clamp : Bool) (x : ℤ)
      → FitsCell (plan.Int lo hi first clamp) (cell.Int x)
  nums : (lo hi : ℤ) (clamp : Bool) (xs : List ℤ)
      → FitsCell (plan.Nums lo hi clamp) (cell.Nums xs)
  words : (ts : List (List ℕ)) → FitsCell plan.Words (cell.Words ts)
  hold : (kinds : List KindPlan) (first parts : List Value)
      → FitsCell (plan.Hold kinds first) (cell.Hold parts)
  enum : (of first l : ℕ) → FitsCell (plan.Enum of first) (cell.Enum l)

-- The state has one cell for each that the script declares, of its kind.
abbrev pub FitsState : ScriptPlan → State → Type 0
FitsState p s = AllZip FitsCell p.cells s.cells

-- A fault by a number names a cell that has a range, whether or not it clamps.
abbrev pub FitsFault : ScriptPlan → FaultKind → Type 0
FitsFault p (fault.Over c) = IsSome (range_at p.cells c)
FitsFault p fault.Arith = Unit {0}

-- The outcome may be one of a group of the script.
abbrev pub FitsOutcome : ScriptPlan → Outcome → Type 0
FitsOutcome p (Going s) = FitsState p s
FitsOutcome p (Ended fault) = FitsFault p fault.kind
