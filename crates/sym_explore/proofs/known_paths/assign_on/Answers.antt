use Rattle.sym_check.specs.Checking.KnownValues.{known_values}
use Rattle.sym_check.specs.Plan.DoPlans.{do_plan}
use Rattle.sym_check.specs.Plan.ScriptPlans.{script_plan}
use Rattle.sym_explore.specs.Stepping.{after_do}
use Rattle.sym_explore.proofs.AssignedLists.{on_ok_both}
use Rattle.sym_explore.proofs.SureSteps.{changed_stepped}
use Rattle.sym_explore.proofs.known_paths.assign_on.Goals as goal

pub returns-in_default : goal.returns-in_default
returns-in_default c =
    on_ok_both c.change.result (c.change.ensures.exact c.args.context.now.no) (c.change.ensures.sure c.requires.sure.sure)
    (changed_stepped (script_plan c.args.context.now.plan.now) (known_values c.args.context.now.known.now) c.args.context.now.no c.args.path.now c.change.new.path c.requires.sure (after_do (script_plan c.args.context.now.plan.now) (known_values c.args.context.now.known.now) c.args.context.now.no (do_plan c.args.statement.now)))
