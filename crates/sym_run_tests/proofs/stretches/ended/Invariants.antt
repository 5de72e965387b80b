use Rattle.std.proofs.Common.{◌≤◌}
use Rattle.sym_run_tests.proofs.stretches.ended.Given as goal

abbrev pub invariant-groups : goal.invariant-groups
invariant-groups l = l.count ≤ l.place
