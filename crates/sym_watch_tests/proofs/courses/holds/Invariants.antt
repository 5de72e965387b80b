use Rattle.std.proofs.Common.{◌≡◌, ◌≤◌}
use Rattle.std.specs.Option.{ForSome}
use Rattle.sym_plain.specs.Shown.{last}
use Rattle.sym_watch_tests.proofs.courses.holds.Given as goal

abbrev pub invariant-steps : goal.invariant-steps
invariant-steps g l = record {
  of : l.watcher.of ≡ l.publisher.of;
  follows : ForSome (last l.publisher.list) (λ p. p.upto ≤ l.border);
}
