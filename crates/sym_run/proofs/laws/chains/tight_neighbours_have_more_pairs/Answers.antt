use Rattle.sym_run.proofs.PushedSegments.{apart_there, few_there}
use Rattle.sym_run.proofs.laws.chains.tight_neighbours_have_more_pairs.Goals as goal

pub returns-clause-apart : goal.returns-clause-apart
returns-clause-apart c = apart_there

pub returns-clause-few : goal.returns-clause-few
returns-clause-few c = few_there
