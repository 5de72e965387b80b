use Rattle.std.proofs.Common.{◌≡◌, ◌<◌, ◌+◌, None, Some, false, not, sym, ap, ◌∙◌, refl, subst, arith}
use Rattle.std.proofs.lemmas.List.Elements.{All-pop}
use Rattle.sym_board.specs.Plays.{slots_of}
use Rattle.sym_board.specs.Passes.{hand, has_ended, claims, IsPassOf}
use Rattle.sym_board.proofs.Steps.Allowed.{join_allows}
use Rattle.sym_board.proofs.Calls.Gathering.{counted_first, counted_more, popped_empty, not_over, none_of, some_of, Counted}
use Rattle.sym_board.proofs.Nodes.Spans.{no_span}
use Rattle.sym_board.proofs.board.Board.gather.Goals as goal

pub passes-init : goal.passes-init
passes-init g c = let x = c.in-Some.first in let one = x.one_pass in let popped = All-pop (λ p. IsPassOf c.args.self.now p) c.args.passes.items c.pop.new.self.items (Some x) c.in-Some.ensures.items c.requires in
    record {
      table = popped.1.0;
      some_pass = omega arith;
      of = popped.0;
      counted = λ empty. counted_first (λ p. hand p ≡ None) (λ p. has_ended p ≡ false) claims c.args.passes.items c.pop.new.self.items x x.seat.me.0.hand x.seat.me.0.passes x.seat.me.0.claimed x.seat.me.0.ended c.in-Some.ensures.items empty
          (λ h. x.hand_is ∙ no_span x.leaves x.hand h) one refl (not_over x.over x.seat.me.0.ended x.over_is);
    }

pub join_seat-requires : goal.join_seat-requires
join_seat-requires g c = let x = c.in-Some-pop.pass in let t = c.args.self.now.table.shared in let i = c.passes.invariant in let none : x.hand ≡ None = none_of x.hand (c.is_none.ensures ∙ ap not c.if-is_none.true) in
    let popped = All-pop (λ p. IsPassOf c.args.self.now p) c.passes.passes.items c.pop-in-passes.new.self.items (Some x) c.in-Some-pop.ensures.items i.of in (
      i.table,
      popped.1.0,
      x.slots_are ∙ ap (slots_of x.leaves) none,
      omega arith,
      join_allows g.P.Piece.stands_for t.key.input.value t.key.leaves t.key.seats c.passes.seat.id x.seat.id c.passes.seat.me.0 x.seat.me.0 i.some_pass (x.hand_is ∙ none),
    )

pub passes-preserved-then-is_none : goal.passes-preserved-then-is_none
passes-preserved-then-is_none g c = let x = c.in-Some-pop.pass in let i = c.passes.invariant in let one = x.one_pass in
    let popped = All-pop (λ p. IsPassOf c.args.self.now p) c.passes.passes.items c.pop-in-passes.new.self.items (Some x) c.in-Some-pop.ensures.items i.of in let e = c.join_seat.ensures.2 in
    let pos : 0 < c.passes.seat.me.0.passes = i.some_pass in let p = ap (λ m. m.0.passes) e in
    record {
      table = c.join_seat.ensures.0 ∙ i.table;
      some_pass = omega arith;
      of = popped.0;
      counted = λ empty. counted_more (λ p. hand p ≡ None) (λ p. has_ended p ≡ false) claims c.args.passes.items c.passes.passes.items c.pop-in-passes.new.self.items x c.join_seat.new.seat.me.0.hand c.passes.seat.me.0.passes c.passes.seat.me.0.claimed c.passes.seat.me.0.ended
          c.join_seat.new.seat.me.0.passes c.join_seat.new.seat.me.0.claimed c.join_seat.new.seat.me.0.ended x.seat.me.0.ended
          (subst (λ h. Counted (λ p. hand p ≡ None) (λ p. has_ended p ≡ false) claims c.args.passes.items c.passes.passes.items h c.passes.seat.me.0.passes c.passes.seat.me.0.claimed c.passes.seat.me.0.ended) (sym (ap (λ m. m.0.hand) e)) (i.counted empty))
          c.in-Some-pop.ensures.items (p ∙ ap (λ k. c.passes.seat.me.0.passes + k) one) (ap (λ m. m.0.claimed) e) (ap (λ m. m.0.ended) e) (not_over x.over x.seat.me.0.ended x.over_is);
    }

pub passes-preserved : goal.passes-preserved
passes-preserved g c = let x = c.in-Some-pop.pass in let i = c.passes.invariant in
    let popped = All-pop (λ p. IsPassOf c.args.self.now p) c.passes.passes.items c.pop-in-passes.new.self.items (Some x) c.in-Some-pop.ensures.items i.of in
    record {
      table = i.table;
      some_pass = i.some_pass;
      of = popped.0;
      counted = λ empty. let none = no_span x.leaves x.hand (popped_empty (λ p. hand p ≡ None) (λ p. has_ended p ≡ false) claims c.args.passes.items c.passes.passes.items c.pop-in-passes.new.self.items x c.passes.seat.me.0.hand c.passes.seat.me.0.passes c.passes.seat.me.0.claimed c.passes.seat.me.0.ended (i.counted empty) c.in-Some-pop.ensures.items) in absurd (some_of x.hand (c.is_none.ensures ∙ ap not c.if-is_none.false) none);
    }
