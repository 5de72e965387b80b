use Rattle.sym_check.proofs.PlanLaws.{bodies_are_fixed}
use Rattle.sym_check.proofs.laws.plans.well_formed_tests_are_fixed.Goals as goal

pub returns : goal.returns
returns c = bodies_are_fixed
