use Rattle.std.proofs.Common.{sym}
use Rattle.sym_check.specs.Plan.FixedPlans.{num_plan}
use Rattle.sym_check.specs.Checking.KnownValues.{known_values}
use Rattle.sym_check.specs.Plan.LinePlans.{term_plan}
use Rattle.sym_check.specs.Plan.ScriptPlans.{script_plan}
use Rattle.std.proofs.Common.{of_z, to_z, w64}
use Rattle.sym_explore.proofs.EvaluatedConditions.{line_evaluated}
use Rattle.sym_explore.proofs.ComparedPaths.{stored_number}
use Rattle.sym_explore.proofs.conditions.compared.Goals as goal

pub returns-in-Line : goal.returns-in-Line
returns-in-Line c = λ args.
    line_evaluated (script_plan c.args._plan.now) (known_values c.args.known.now) c.args.compare (term_plan c.args.term.now) (num_plan c.args.right.now) args c.in-Ok-Ok.ready c.in-Line.field-0 c.in-Ok-Ok.number (to_z w64 (of_z w64 c.in-Ok-Ok.number)) c.requires.cond (sym c.in-Ok-Ok.ensures') c.in-Line.is (sym c.in-Ok-Ok.ensures) (stored_number c.in-Ok-Ok.number)
