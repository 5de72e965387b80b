use Rattle.sym_path.proofs.PairCounts.{pairs_same}
use Rattle.sym_path.proofs.laws.pairs.pairs_are_one_number.Goals as goal

pub returns : goal.returns
returns c = pairs_same
