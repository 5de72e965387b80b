use Rattle.sym_board.proofs.Steps.Operations.{adding}
use Rattle.sym_board.proofs.laws.claim_is_a_step.Goals as goal

pub returns : goal.returns
returns g c = λ input n seats s id v t hand more. adding g.P.Piece.stands_for input n seats s id v t hand more
