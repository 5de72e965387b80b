use Rattle.std.proofs.Common.{ℕ, arith, subst}
use Rattle.std.proofs.lemmas.List.Elements.{All-tail}
use Rattle.std.specs.List.{All}
use Rattle.sym_fork.specs.Slots.{IsGiven}
use Rattle.sym_fork.proofs.Slots.{put_slot}
use Rattle.sym_fork.proofs.claims.put_made.Goals as goal

pub made-preserved-then-index-len : goal.made-preserved-then-index-len
made-preserved-then-index-len g c =
    let all = subst (All (λ (one : ℕ × g.row.X.Denot). IsGiven g.F.Fn c.args.call.now one.0 one.1)) c.in-Some.ensures.steps.0 c.made.invariant.rest in
    record {
      len = c.made.invariant.len;
      slots = put_slot (IsGiven g.F.Fn c.args.call.now) c.made.slots.items c.in-Some.index c.in-Some.result (omega (arith, c.if-index-len.true, c.len.ensures, c.made.slots.ok.0)) (all 0 (c.in-Some.index, c.in-Some.result) (omega arith)) c.made.invariant.slots;
      rest = All-tail (λ (one : ℕ × g.row.X.Denot). IsGiven g.F.Fn c.args.call.now one.0 one.1) _ _ all;
    }

pub made-preserved-then-index-len-2 : goal.made-preserved-then-index-len-2
made-preserved-then-index-len-2 g c =
    let all = subst (All (λ (one : ℕ × g.row.X.Denot). IsGiven g.F.Fn c.args.call.now one.0 one.1)) c.in-Some.ensures.steps.0 c.made.invariant.rest in
    record {
      len = c.made.invariant.len;
      slots = put_slot (IsGiven g.F.Fn c.args.call.now) c.made.slots.items c.in-Some.index c.in-Some.result (omega (arith, c.if-index-len.true, c.len.ensures, c.made.slots.ok.0)) (all 0 (c.in-Some.index, c.in-Some.result) (omega arith)) c.made.invariant.slots;
      rest = All-tail (λ (one : ℕ × g.row.X.Denot). IsGiven g.F.Fn c.args.call.now one.0 one.1) _ _ all;
    }

pub made-preserved : goal.made-preserved
made-preserved g c =
    let all = subst (All (λ (one : ℕ × g.row.X.Denot). IsGiven g.F.Fn c.args.call.now one.0 one.1)) c.in-Some.ensures.steps.0 c.made.invariant.rest in
    record {
      len = c.made.invariant.len;
      slots = c.made.invariant.slots;
      rest = All-tail (λ (one : ℕ × g.row.X.Denot). IsGiven g.F.Fn c.args.call.now one.0 one.1) _ _ all;
    }
