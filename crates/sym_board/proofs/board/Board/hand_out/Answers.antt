use Rattle.std.proofs.Common.{arith}
use Rattle.sym_board.proofs.Steps.Allowed.{split_allows}
use Rattle.sym_board.proofs.board.Board.hand_out.Goals as goal

pub split_seat-next-requires : goal.split_seat-next-requires
split_seat-next-requires g c = let t = c.args.self.now.table.shared in let i = c.passes.invariant in
    (i.table, omega arith, split_allows g.P.Piece.stands_for t.key.input.value t.key.leaves t.key.seats c.passes.seat.id c.passes.seat.me.0 (omega arith) i.no_end)
