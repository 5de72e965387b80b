use Rattle.sym_board.proofs.Steps.Operations.{setting_first}
use Rattle.sym_board.proofs.laws.arrival_alone_is_a_step.Goals as goal

pub returns : goal.returns
returns g c = λ input n seats s id v k x t hand ne st alone. setting_first g.P.Piece.stands_for input n seats s id v t k x hand ne st alone
