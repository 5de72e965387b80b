use Rattle.sym_check.proofs.PlanLaws.{after_more, after_append, ended_stays}
use Rattle.sym_check.proofs.laws.plans.records_run_on.Goals as goal

pub returns-clause-one : goal.returns-clause-one
returns-clause-one c = after_more

pub returns-clause-more : goal.returns-clause-more
returns-clause-more c = after_append

pub returns-clause-ended : goal.returns-clause-ended
returns-clause-ended c = ended_stays
