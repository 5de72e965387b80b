use Rattle.std.proofs.Common.{◌∙◌, ◌∷◌, ◌++◌, [], ℕ, List, ap, append_assoc, arith, length, length-append, subst, sym}
use Rattle.std.specs.Vec.Iter.{into_iter_items}
use Rattle.sym_fork.specs.Slots.{IsGiven}
use Rattle.sym_fork.proofs.Slots.{AreResults, push_result}
use Rattle.sym_fork.proofs.claims.filled.Goals as goal

pub slots-preserved : goal.slots-preserved
slots-preserved g c =
    let before = c.slots.yielded in
    let rest = into_iter_items c.next.new.self in
    let results = c.slots.results.items in
    let pushed = c.in_ok-push.ensures.items in
    record {
      all =
          append_assoc before (c.in-Some.slot ∷ []) rest
          ∙ ap (λ (others : List _). before ++ others) (sym c.in-Some.ensures.steps.0)
          ∙ c.slots.invariant.all;
      len = omega (arith, ap length pushed, length-append results (c.value_of.result ∷ []), length-append before (c.in-Some.slot ∷ []), c.slots.invariant.len);
      each =
          subst (AreResults (IsGiven g.F.Fn c.args.call.now)) (sym pushed)
          (push_result (IsGiven g.F.Fn c.args.call.now) results c.value_of.result
          (subst (λ (i : ℕ). IsGiven g.F.Fn c.args.call.now i c.value_of.result) (c.len-index.ensures ∙ c.slots.results.ok.0) c.value_of.ensures) c.slots.invariant.each);
    }
