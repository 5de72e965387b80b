-- The cells so far may have their parts.
use Rattle.std.proofs.Common.{◌≡◌, ◌<◌, ℕ, length, Some}
use Rattle.std.specs.Prelude.{slice_get}
use Rattle.sym_check.specs.declared.plan.script.CellPlan.{CellPlan}
use Rattle.sym_check.specs.Plan.ScriptPlans.{script_plan}
use Rattle.sym_path.specs.Checking.{FitsPart}
use Rattle.sym_path.specs.declared.part.Part.{Part}
use Rattle.sym_path.proofs.fits.parts_fit.Given as goal

abbrev pub invariant-cells : goal.invariant-cells
invariant-cells l =
    (length l.cells ≡ length l.parts)
    × ((d : ℕ) (cell : CellPlan) (now : Part) → d < l.index → slice_get l.cells d ≡ Some cell → slice_get l.parts d ≡ Some now → FitsPart (script_plan l.plan) cell now)
