use Rattle.sym_board.proofs.State.Chunks.{carried}
use Rattle.sym_board.proofs.laws.chunks_lie_once.Goals as goal

pub returns : goal.returns
returns g c = λ input n seats some_leaf few s w i h lt. carried g.P.Piece.stands_for input n seats some_leaf few s w i h lt
