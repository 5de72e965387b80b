-- The first entries stay.
use Rattle.std.proofs.Common.{◌≡◌, take, length}
use Rattle.sym_check.proofs.elaborate.scope.Scope.truncate.Given as goal

abbrev pub invariant-entries : goal.invariant-entries
invariant-entries l = take l.count l.self ≡ take l.count l.fn.self

abbrev pub decreases-entries : goal.decreases-entries
decreases-entries l = length l.self
