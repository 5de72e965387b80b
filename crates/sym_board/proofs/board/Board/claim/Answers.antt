use Rattle.std.proofs.Common.{◌<◌, ap, ◌∙◌, arith, if◌then◌else◌, Some, Bool}
use Rattle.sym_board.specs.Passes.{span_of}
use mathlib.Core.Option.{none}
use Rattle.atomic_table.specs.Table.{step}
use Rattle.sym_board.specs.Tree.{leaf}
use Rattle.sym_board.proofs.Nodes.Spans.{no_span, leaf_span}
use Rattle.sym_board.proofs.Steps.Allowed.{claim_allows}
use Rattle.sym_board.proofs.board.Board.claim.Goals as goal

pub fetch_add-found-requires : goal.fetch_add-found-requires
fetch_add-found-requires g c = let p = c.args.pass.now in let t = c.args.self.now.table.shared in
    let none_ended = p.over_is ∙ ap (λ (b : Bool). if b then 1 else 0) c.requires.free.1 in
    let one = p.one_pass in
    (c.requires.of.0, omega arith, claim_allows g.P.Piece.stands_for t.key.input.value t.key.leaves t.key.seats t.table_id.slots p.seat.id p.seat.me (step t.table_id.slots 0 1 0 none) (p.hand_is ∙ no_span p.leaves p.hand c.requires.free.0) (omega arith))

pub returns-then-found-self-clause-leaf : goal.returns-then-found-self-clause-leaf
returns-then-found-self-clause-leaf g c = let r = c.fetch_add-found.result in let b = c.args.self.now in let test = c.if-found-self.true in let below : r < b.leaves = omega arith in
    ap (λ n. span_of n (Some (leaf r))) c.requires.of.2 ∙ leaf_span b.leaves b.sizes.0 b.sizes.1 r below
