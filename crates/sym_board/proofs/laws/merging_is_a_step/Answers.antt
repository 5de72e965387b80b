use Rattle.sym_board.proofs.Steps.Taken.{merged_joins}
use Rattle.sym_board.proofs.laws.merging_is_a_step.Goals as goal

pub returns : goal.returns
returns g c = λ input n seats s id v other w t ne there no_hand. merged_joins s id v other w ne there no_hand
