-- The tests copied so far are the first ones, boxes aside.
use Rattle.std.proofs.Common.{◌≡◌, take, map}
use Rattle.sym_check.specs.Plan.ScriptPlans.{test_plan}
use Rattle.sym_check.proofs.plan.script.copy_test_plans.Given as goal

abbrev pub invariant-tests : goal.invariant-tests
invariant-tests l = map test_plan l.copied.items ≡ map test_plan (take l.test-index l.test-items)
