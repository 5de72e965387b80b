use Rattle.std.proofs.Common.{All, Some, sym, subst, arith}
use Rattle.std.proofs.lemmas.List.Elements.{All-pop, All-push}
use Rattle.sym_board.specs.Passes.{IsNewPassOf}
use Rattle.sym_workers.proofs.workers.numbered.Goals as goal

pub passes-preserved : goal.passes-preserved
passes-preserved g c =
    let board = c.args.board.now in
    let was = c.passes.invariant in
    let pass = c.in-Some.pass in
    let popped = All-pop (λ p. IsNewPassOf board p) c.passes.passes.items c.pop.new.self.items (Some pass) c.in-Some.ensures.items was.left in
    let fewer = c.in-Some.ensures.len in
    let more = c.in_ok-push.ensures.len in
    let count = was.count in
    record {
      left = popped.0;
      each = subst (All (λ w. IsNewPassOf board w.pass)) (sym c.in_ok-push.ensures.items) (All-push (λ w. IsNewPassOf board w.pass) c.passes.workers.items _ was.each popped.1);
      count = omega arith;
    }
