use Rattle.std.proofs.Common.{◌≡◌, ◌<◌, sym, ap, ◌∙◌, refl, subst, subst₂, arith, Some}
use Rattle.sym_board.specs.Tree.{inner, nodes}
use Rattle.sym_board.specs.Plays.{hand_slots}
use Rattle.sym_board.specs.Passes.{hand, span_of, board_input}
use Rattle.sym_board.specs.Arrived.{Meets}
use Rattle.sym_board.proofs.Nodes.Spans.{filled, stands_spot, hung, spot_long, spot_root, spot_other, not_whole, root_span, met_spans}
use Rattle.sym_board.proofs.board.Board.deliver.Goals as goal

pub overflow_sub-at : goal.overflow_sub-at
overflow_sub-at g c = let b = c.args.self.now in let k = c.in-Some.node in let at = c.find-at.result in
    let near : k < nodes b.leaves = subst (λ n. k < nodes n) c.requires.of.2 (c.args.pass.now.hand_near k c.in-Some.is) in
    let l = spot_long b.leaves b.sizes.0 b.sizes.1 k at.lo at.hi at.above at.is_left near c.find-at.ensures.found in omega arith

pub crown-requires-clause-node : goal.crown-requires-clause-node
crown-requires-clause-node g c κs within = let b = c.args.self.now in let k = c.in-Some.node in let at = c.find-at.result in
    let near : k < nodes b.leaves = subst (λ n. k < nodes n) c.requires.of.2 (c.args.pass.now.hand_near k c.in-Some.is) in
    spot_root b.leaves b.sizes.0 b.sizes.1 k at.lo at.hi at.above at.is_left near c.find-at.ensures.found c.if-at-self.true

pub crown-requires-clause-piece : goal.crown-requires-clause-piece
crown-requires-clause-piece g c κs within = let b = c.args.self.now in let p = c.args.pass.now in let k = c.in-Some.node in let at = c.find-at.result in
    let near : k < nodes b.leaves = subst (λ n. k < nodes n) c.requires.of.2 (p.hand_near k c.in-Some.is) in
    let l = spot_long b.leaves b.sizes.0 b.sizes.1 k at.lo at.hi at.above at.is_left near c.find-at.ensures.found in let whole = c.if-at-self.true in
    let st = stands_spot (λ x y. g.P.Piece.stands_for (board_input b) x y c.args.piece) p.leaves b.leaves k at.lo at.hi at.above at.is_left p.hand c.requires.held.0 c.requires.of.2 c.requires.held.1 c.in-Some.is c.find-at.ensures.found c.requires.held.2 in record {
      piece = c.args.piece;
      slots_are = subst (λ n. c.exchange-nothing.new.seat.me.1 ≡ hand_slots n k (Some c.args.piece)) c.requires.of.2 (filled p.leaves k p.hand p.seat.me.1 c.exchange-nothing.new.seat.me.1 c.args.piece c.in-Some.is p.slots_are (ap (λ m. m.1) c.exchange-nothing.ensures.3));
      piece_stands = subst₂ (λ x y. g.P.Piece.stands_for (board_input b) x y c.args.piece) (omega arith) (omega arith) st;
    }

pub returns-then-at-self-clause-arrived : goal.returns-then-at-self-clause-arrived
returns-then-at-self-clause-arrived g c = let b = c.args.self.now in let p = c.args.pass.now in let k = c.in-Some.node in let at = c.find-at.result in
    let near : k < nodes b.leaves = subst (λ n. k < nodes n) c.requires.of.2 (p.hand_near k c.in-Some.is) in
    let is = spot_root b.leaves b.sizes.0 b.sizes.1 k at.lo at.hi at.above at.is_left near c.find-at.ensures.found c.if-at-self.true in
    record { root = ap (span_of p.leaves) c.in-Some.is ∙ ap (λ n. span_of n (Some k)) c.requires.of.2 ∙ root_span b.leaves b.sizes.0 b.sizes.1 k is; emptied = refl }

pub arrive-requires-clause-node : goal.arrive-requires-clause-node
arrive-requires-clause-node g c κs within = let b = c.args.self.now in let k = c.in-Some.node in let at = c.find-at.result in
    let near : k < nodes b.leaves = subst (λ n. k < nodes n) c.requires.of.2 (c.args.pass.now.hand_near k c.in-Some.is) in
    record { near = near; not_root = spot_other b.leaves b.sizes.0 b.sizes.1 k at.lo at.hi at.above at.is_left near c.find-at.ensures.found c.if-at-self.false; found = c.find-at.ensures.found }

pub returns-clause-arrived : goal.returns-clause-arrived
returns-clause-arrived g c = let b = c.args.self.now in let p = c.args.pass.now in let k = c.in-Some.node in let at = c.find-at.result in let m = at.above in
    let near : k < nodes b.leaves = subst (λ n. k < nodes n) c.requires.of.2 (p.hand_near k c.in-Some.is) in
    let ne = spot_other b.leaves b.sizes.0 b.sizes.1 k at.lo at.hi at.above at.is_left near c.find-at.ensures.found c.if-at-self.false in
    let was : hand p ≡ span_of b.leaves (Some k) = ap (span_of p.leaves) c.in-Some.is ∙ ap (λ n. span_of n (Some k)) c.requires.of.2 in
    let h = hung b.leaves b.sizes.0 b.sizes.1 k at.lo at.hi at.above at.is_left near ne c.find-at.ensures.found in
    let met = c.in-Some-arrive.ensures.met in
    let spans = met_spans g.P.Piece.stands_for (board_input b) b.leaves m c.arrive.new.seat.me.0.arrival_found at.is_left c.in-Some-arrive.left c.in-Some-arrive.right b.sizes.0 b.sizes.1 h.0 h.1 met.sibling met.left_stands met.right_stands in
    record {
      not_root = λ e. not_whole b.leaves b.sizes.0 b.sizes.1 k at.lo at.hi at.above at.is_left near c.find-at.ensures.found ne (sym was ∙ e);
      meets = subst₂ (λ x y. Meets g.P.Piece.stands_for (board_input b) b.leaves c.arrive.new.seat.me.0.arrival_found x y c.in-Some-arrive.left c.in-Some-arrive.right) (ap (λ j. span_of b.leaves (Some j)) h.2 ∙ sym was) (ap (λ n. span_of n (Some (inner m))) (sym c.requires.of.2)) spans;
    }
