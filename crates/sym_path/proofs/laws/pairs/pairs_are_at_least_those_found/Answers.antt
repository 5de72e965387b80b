use Rattle.sym_path.proofs.PairsWithin.{at_most_found}
use Rattle.sym_path.proofs.laws.pairs.pairs_are_at_least_those_found.Goals as goal

pub returns : goal.returns
returns c = at_most_found
