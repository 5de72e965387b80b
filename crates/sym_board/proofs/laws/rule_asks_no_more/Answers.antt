use Rattle.sym_board.proofs.State.Agreeing.{orderly}
use Rattle.sym_board.proofs.laws.rule_asks_no_more.Goals as goal

pub returns : goal.returns
returns g c = λ about s some_leaf few few_seats w. orderly g.P.Piece.stands_for about.input.value about.leaves about.seats some_leaf few few_seats s w
