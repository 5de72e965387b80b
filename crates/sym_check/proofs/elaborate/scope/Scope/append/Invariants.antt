-- The entries added so far are the first of the other scope.
use Rattle.std.proofs.Common.{◌≡◌, ◌++◌}
use Rattle.sym_check.proofs.elaborate.scope.Scope.append.Given as goal

abbrev pub invariant-entries : goal.invariant-entries
invariant-entries l = l.self ≡ l.fn.self ++ l.yielded
