use Rattle.sym_run.proofs.PushedSegments.{over_stays, within_composed}
use Rattle.sym_run.proofs.laws.chains.pushing_composes_within_the_limit.Goals as goal

pub returns-clause-over : goal.returns-clause-over
returns-clause-over c = over_stays

pub returns-clause-within : goal.returns-clause-within
returns-clause-within c = within_composed
