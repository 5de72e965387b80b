use Rattle.sym_board.proofs.Steps.Operations.{setting_second}
use Rattle.sym_board.proofs.laws.arrival_after_the_sibling_is_a_step.Goals as goal

pub returns : goal.returns
returns g c = λ input n seats s id v k x t hand ne st met. setting_second g.P.Piece.stands_for input n seats s id v t k x hand ne st met
