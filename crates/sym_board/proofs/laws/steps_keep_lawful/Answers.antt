use Rattle.sym_board.proofs.State.Agreeing.{lawful_step}
use Rattle.sym_board.proofs.laws.steps_keep_lawful.Goals as goal

pub returns : goal.returns
returns g c = λ input n seats s t id v at step. lawful_step g.P.Piece.stands_for input n seats at.some_leaf at.few_leaves at.few_seats s at.lawful t id v at.there at.some_pass step
