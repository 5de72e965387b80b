use Rattle.std.proofs.Common.{◌∙◌, ℕ, IfOk, Vec, arith, subst}
use Rattle.std.proofs.lemmas.Result.{IfOk-at_ok}
use Rattle.std.proofs.lemmas.List.Elements.{All-tail}
use Rattle.std.specs.List.{All}
use Rattle.sym_fork.specs.Slots.{AreGiven, IsGiven}
use Rattle.sym_fork.proofs.claims.map_claimed.Goals as goal

pub put_made-requires-clause-made : goal.put_made-requires-clause-made
put_made-requires-clause-made g c =
    let all = subst (All (λ (part : _). IfOk part (λ made. All (λ (one : ℕ × g.row.X.Denot). IsGiven g.F.Fn c.args.call.now one.0 one.1) made.items))) c.in-Some.ensures.steps.0 c.parts.invariant.rest in
    IfOk-at_ok (λ (made : Vec (ℕ × g.row.X.Denot) _). All (λ (one : ℕ × g.row.X.Denot). IsGiven g.F.Fn c.args.call.now one.0 one.1) made.items) c.in_ok-part.was (all 0 c.in-Some.part (omega arith))

pub parts-preserved : goal.parts-preserved
parts-preserved g c = record {
  len = c.put_made.ensures.len ∙ c.parts.invariant.len;
  slots = c.put_made.ensures.slots;
  rest = All-tail (λ (part : _). IfOk part (λ made. All (λ (one : ℕ × g.row.X.Denot). IsGiven g.F.Fn c.args.call.now one.0 one.1) made.items)) _ _ (subst (All (λ (part : _). IfOk part (λ made. All (λ (one : ℕ × g.row.X.Denot). IsGiven g.F.Fn c.args.call.now one.0 one.1) made.items))) c.in-Some.ensures.steps.0 c.parts.invariant.rest);
}

pub returns-clause-each : goal.returns-clause-each
returns-clause-each g c = subst (λ (count : ℕ). IfOk c.filled.result (λ results. AreGiven g.F.Fn c.args.call.now count results.items)) c.parts.invariant.len c.filled.ensures.each
