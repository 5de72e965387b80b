use Rattle.sym_board.proofs.Steps.Operations.{crowning}
use Rattle.sym_board.proofs.laws.crowning_is_a_step.Goals as goal

pub returns : goal.returns
returns g c = λ input n seats s id v x t hand st. crowning g.P.Piece.stands_for input n seats s id v t x hand st
