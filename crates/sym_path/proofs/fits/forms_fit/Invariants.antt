-- The cells so far may have their forms.
use Rattle.std.proofs.Common.{◌≡◌, ◌<◌, ℕ, length, Some}
use Rattle.std.specs.Prelude.{slice_get}
use Rattle.sym_check.specs.declared.plan.script.CellPlan.{CellPlan}
use Rattle.sym_check.specs.Plan.ScriptPlans.{script_plan}
use Rattle.sym_path.specs.Checking.{FitsForm}
use Rattle.sym_path.specs.declared.form.Form.{Form}
use Rattle.sym_path.proofs.fits.forms_fit.Given as goal

abbrev pub invariant-cells : goal.invariant-cells
invariant-cells l =
    (length l.cells ≡ length l.items)
    × ((d : ℕ) (cell : CellPlan) (f : Form) → d < l.index → slice_get l.cells d ≡ Some cell → slice_get l.items d ≡ Some f → FitsForm (script_plan l.plan) l.when cell f)
