use Rattle.sym_board.proofs.Steps.Operations.{ending}
use Rattle.sym_board.proofs.laws.closing_is_a_step.Goals as goal

pub returns : goal.returns
returns g c = λ about id v words slots final. ending g.P.Piece.stands_for about id v words slots final
