use Rattle.sym_path.proofs.PossibleStates.{pair_is_possible}
use Rattle.sym_path.proofs.laws.succession.paths_in_turn_are_possible.Goals as goal

pub returns : goal.returns
returns c = pair_is_possible
