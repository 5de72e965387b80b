use Rattle.sym_board.proofs.Steps.Taken.{cut_splits}
use Rattle.sym_board.proofs.laws.cutting_is_a_step.Goals as goal

pub returns : goal.returns
returns g c = λ input n seats s id v t two none_ended. cut_splits s id v two none_ended
