use Rattle.sym_check.specs.Plan.ScriptPlans.{script_plan}
use Rattle.sym_explore.proofs.hold_tests.test_on.Goals as goal

pub answer_at-requires : goal.answer_at-requires
answer_at-requires c = c.well_formed_tests_are_fixed.ensures (script_plan c.args.plan.now) c.requires.known
