use Rattle.std.proofs.Common.{ap, arith}
use mathlib.Core.Option.{none}
use Rattle.atomic_table.specs.Table.{step}
use Rattle.sym_board.proofs.Steps.Allowed.{arrive_allows_at}
use Rattle.sym_board.proofs.Nodes.Spans.{hung}
use Rattle.sym_board.proofs.board.Board.set_bit.Goals as goal

pub fetch_or-requires : goal.fetch_or-requires
fetch_or-requires g c = let b = c.args.self.now in let t = b.table.shared in let s = c.args.seat.now in let a = c.args.at in let n = c.requires.node in let v = c.requires.view in let p = c.requires.piece in
    let h = hung b.leaves b.sizes.0 b.sizes.1 c.args.node a.lo a.hi a.above a.is_left n.near n.not_root n.found in (
      c.requires.table,
      omega arith,
      arrive_allows_at g.P.Piece.stands_for t.key.input.value t.key.leaves t.key.seats b.leaves t.table_id.slots s.id c.args.node a.lo a.hi a.above c.bit_of.result a.is_left s.me.0 p.piece s.me (step t.table_id.slots a.above c.bit_of.result 0 none)
          b.key_is.0 b.sizes.0 b.sizes.1 n.near n.not_root n.found v.hand_is v.some_pass p.piece_stands c.bit_of.ensures (ap (λ l. (s.me.0, l)) p.slots_are),
    )

pub returns-clause-parent : goal.returns-clause-parent
returns-clause-parent g c = let b = c.args.self.now in let a = c.args.at in let n = c.requires.node in let h = hung b.leaves b.sizes.0 b.sizes.1 c.args.node a.lo a.hi a.above a.is_left n.near n.not_root n.found in (h.0, h.1)
