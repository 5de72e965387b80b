use Rattle.std.proofs.Common.{◌≡◌, sym, ap, ◌∙◌, refl, subst, arith, Some, true, false}
use Rattle.std.proofs.lemmas.Option.{same_Some}
use Rattle.sym_board.specs.Tree.{inner, number, place, Place, side}
use Rattle.sym_board.proofs.Nodes.Laws.{at_inner}
use Rattle.sym_board.proofs.Nodes.Spans.{side_left, side_right}
use Rattle.sym_board.proofs.Calls.Emptied.{left_slot, left_is, right_slot, right_is, both_empty}
use Rattle.sym_board.specs.Steps.{with_hand}
use Rattle.sym_board.specs.Plays.{slots_of}
use Rattle.sym_board.specs.Passes.{board_input}
use Rattle.sym_board.proofs.board.Board.arrive.Goals as goal

pub overflow_mul-at : goal.overflow_mul-at
overflow_mul-at g c = omega (arith, c.set_bit-found.ensures.parent)

pub overflow_sub-at : goal.overflow_sub-at
overflow_sub-at g c = omega (arith, c.set_bit-found.ensures.parent)

pub number_of-requires : goal.number_of-requires
number_of-requires g c = let b = c.args.self.now in let p = c.set_bit-found.ensures.parent in let t = at_inner b.leaves b.sizes.0 b.sizes.1 c.args.at.above p.0 p.1 in
    let e = ap (λ (q : Place). q.lo) c.find-parent.ensures.found in let lo = t.after in (omega arith, omega arith, omega arith)

pub take-left-requires-clause-first : goal.take-left-requires-clause-first
take-left-requires-clause-first g c κs within = let b = c.args.self.now in let m = c.args.at.above in let t = c.set_bit-found.ensures.met c.if-found-eq0.false in
    let l : c.number_of.result ≡ side b.leaves m true = c.number_of.ensures ∙ ap (λ (q : Place). number q.lo m) c.find-parent.ensures.found ∙ sym (side_left b.leaves m) in
    (Some t.left, left_slot g.P.Piece.stands_for b.leaves m c.args.at.is_left c.args.seat.now.me.0 c.set_bit-found.result c.set_bit-found.new.seat.me t c.number_of.result (side b.leaves m false) l refl)

pub number_of-requires-2 : goal.number_of-requires-2
number_of-requires-2 g c = let b = c.args.self.now in let p = c.set_bit-found.ensures.parent in let t = at_inner b.leaves b.sizes.0 b.sizes.1 c.args.at.above p.0 p.1 in
    let e = ap (λ (q : Place). q.hi) c.find-parent.ensures.found in let lo = t.before in (omega arith, omega arith, omega arith)

pub take-right-requires-clause-first : goal.take-right-requires-clause-first
take-right-requires-clause-first g c κs within = let b = c.args.self.now in let m = c.args.at.above in let t = c.set_bit-found.ensures.met c.if-found-eq0.false in
    let l : c.number_of.result ≡ side b.leaves m true = c.number_of.ensures ∙ ap (λ (q : Place). number q.lo m) c.find-parent.ensures.found ∙ sym (side_left b.leaves m) in
    let r : c.number_of-2.result ≡ side b.leaves m false = c.number_of-2.ensures ∙ ap (λ (q : Place). number m q.hi) c.find-parent.ensures.found ∙ sym (side_right b.leaves m) in
    (Some t.right, right_slot g.P.Piece.stands_for b.leaves m c.args.at.is_left c.args.seat.now.me.0 c.set_bit-found.result c.set_bit-found.new.seat.me t c.number_of.result c.number_of-2.result l r c.take-left.new.seat.me c.take-left.ensures.turned)

pub returns-clause-met : goal.returns-clause-met
returns-clause-met g c = let b = c.args.self.now in let m = c.args.at.above in let t = c.set_bit-found.ensures.met c.if-found-eq0.false in
    let l : c.number_of.result ≡ side b.leaves m true = c.number_of.ensures ∙ ap (λ (q : Place). number q.lo m) c.find-parent.ensures.found ∙ sym (side_left b.leaves m) in
    let r : c.number_of-2.result ≡ side b.leaves m false = c.number_of-2.ensures ∙ ap (λ (q : Place). number m q.hi) c.find-parent.ensures.found ∙ sym (side_right b.leaves m) in
    let x = left_is g.P.Piece.stands_for b.leaves m c.args.at.is_left c.args.seat.now.me.0 c.set_bit-found.result c.set_bit-found.new.seat.me t c.number_of.result c.number_of-2.result l r c.take-left.result c.take-left.ensures.value in
    let y = right_is g.P.Piece.stands_for b.leaves m c.args.at.is_left c.args.seat.now.me.0 c.set_bit-found.result c.set_bit-found.new.seat.me t c.number_of.result c.number_of-2.result l r c.take-left.new.seat.me c.take-left.ensures.turned c.take-right.result c.take-right.ensures.value in
    let v = c.args.seat.now.me.0 in let r0 = c.set_bit-found.result in let after = c.take-right.new.seat.me in
    let both = both_empty g.P.Piece.stands_for b.leaves m c.args.at.is_left v r0 c.set_bit-found.new.seat.me t c.number_of.result c.number_of-2.result l r c.take-left.new.seat.me c.take-left.ensures.turned after c.set_bit-found.ensures.parent.0 c.take-right.ensures.turned in
    let found_is : after.0.arrival_found ≡ r0 = ap (λ w. w.0.arrival_found) both in
    record {
      sibling = found_is ∙ t.sibling;
      after_is = both ∙ ap (λ x. (with_hand v (Some (inner m)) x, slots_of b.leaves (Some (inner m)))) (sym found_is);
      left_stands = subst (g.P.Piece.stands_for (board_input b) (place b.leaves (inner m)).lo m) (same_Some t.left c.in-Some-Some.left (sym x ∙ c.in-Some-Some.is-0)) (t.left_stands (board_input b) c.requires.view.input_is);
      right_stands = subst (g.P.Piece.stands_for (board_input b) m (place b.leaves (inner m)).hi) (same_Some t.right c.in-Some-Some.right (sym y ∙ c.in-Some-Some.is-1)) (t.right_stands (board_input b) c.requires.view.input_is);
    }
