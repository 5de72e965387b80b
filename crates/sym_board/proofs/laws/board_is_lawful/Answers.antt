use Rattle.sym_board.proofs.State.Lawful.{lawful}
use Rattle.sym_board.proofs.laws.board_is_lawful.Goals as goal

pub returns : goal.returns
returns g c = λ about s o. lawful g.P.Piece.stands_for about.input.value about.leaves about.seats s o
