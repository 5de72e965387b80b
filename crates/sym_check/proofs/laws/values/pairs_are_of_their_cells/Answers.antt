use Rattle.sym_check.proofs.ValidSteps.{pair_is}
use Rattle.sym_check.proofs.laws.values.pairs_are_of_their_cells.Goals as goal

pub returns : goal.returns
returns c = pair_is
