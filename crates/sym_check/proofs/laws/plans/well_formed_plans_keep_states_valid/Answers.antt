use Rattle.sym_check.proofs.ValidSteps.{initial_valid, step_valid}
use Rattle.sym_check.proofs.laws.plans.well_formed_plans_keep_states_valid.Goals as goal

pub returns-clause-first : goal.returns-clause-first
returns-clause-first c = initial_valid

pub returns-clause-then : goal.returns-clause-then
returns-clause-then c = step_valid
