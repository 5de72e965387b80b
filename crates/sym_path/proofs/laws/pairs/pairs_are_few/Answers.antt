use Rattle.sym_path.proofs.PairCounts.{pairs_few, pairs_full}
use Rattle.sym_path.proofs.laws.pairs.pairs_are_few.Goals as goal

pub returns : goal.returns
returns c = record { most = pairs_few; all = pairs_full }
