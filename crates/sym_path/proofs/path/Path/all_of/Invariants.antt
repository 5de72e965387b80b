-- The parts and the forms of the cells so far.
use Rattle.sym_check.specs.Plan.ScriptPlans.{script_plan}
use Rattle.sym_path.specs.Identity.{AreWhole}
use Rattle.sym_path.proofs.path.Path.all_of.Given as goal

abbrev pub invariant-cells : goal.invariant-cells
invariant-cells l = AreWhole (script_plan l.plan) l.index l.when.items l.forms.items
