use Rattle.std.proofs.Common.{ap, refl, arith}
use mathlib.Core.Option.{none}
use Rattle.atomic_table.specs.Table.{step}
use Rattle.sym_board.proofs.Steps.Allowed.{crown_allows_at}
use Rattle.sym_board.proofs.board.Board.crown.Goals as goal

pub fetch_or-requires : goal.fetch_or-requires
fetch_or-requires g c = let b = c.args.self.now in let t = b.table.shared in let s = c.args.seat.now in let v = c.requires.view in let p = c.requires.piece in (
  c.requires.table,
  omega arith,
  crown_allows_at g.P.Piece.stands_for t.key.input.value t.key.leaves t.key.seats b.leaves t.table_id.slots s.id c.args.node b.leaves s.me.0 p.piece s.me (step t.table_id.slots b.leaves 1 0 none)
      b.key_is.0 c.requires.node v.hand_is v.some_pass p.piece_stands refl (ap (λ l. (s.me.0, l)) p.slots_are),
)
