use Rattle.std.proofs.Common.{◌-◌, ◌*◌, arith, refl}
use Rattle.std.proofs.lemmas.Option.{none-some}
use Rattle.sym_board.specs.Rule.{first_view}
use Rattle.sym_board.specs.declared.view.About.{About}
use Rattle.sym_board.proofs.State.Opening.{opened}
use Rattle.sym_board.proofs.board.Board.new.Goals as goal

pub vacant-requires : goal.vacant-requires
vacant-requires g c = let about : About g.row.P-Input.Denot = record { input = c.of.result; leaves = c.from-leaves.result; seats = c.from.result } in
    opened g.P.Piece.stands_for c.of.result.value c.from-leaves.result c.from.result (first_view about)
    (record { input_is = refl; leaves_is = refl; seats_is = refl; some_pass = omega arith; few_ended = omega arith; ended_found = λ positive. absurd (omega arith); hand_near = λ k e. absurd (none-some k e) }) refl refl refl refl
    c.blank_words.result.now (2 * c.args.n - 1) (omega arith) (omega arith) (omega arith) (omega arith) (omega arith) c.blank_words.ensures.blank
