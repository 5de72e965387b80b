-- The entries copied so far are the visible ones of the first.
use Rattle.std.proofs.Common.{◌≡◌, take}
use Rattle.sym_check.specs.Rules.Scopes.{visible}
use Rattle.sym_check.proofs.elaborate.scope.seen.Given as goal

abbrev pub invariant-entries : goal.invariant-entries
invariant-entries l = l.names ≡ visible l.view (take l.entry-index l.entry-items)
