use Rattle.std.proofs.Common.{◌≤◌}
use Rattle.std.specs.Option.{ForSome}
use Rattle.sym_plain.specs.Shown.{last}
use Rattle.sym_watch_tests.proofs.threads.publish_all.Given as goal

abbrev pub invariant-borders : goal.invariant-borders
invariant-borders g l = ForSome (last l.publisher.list) (λ p. p.upto ≤ l.border)
