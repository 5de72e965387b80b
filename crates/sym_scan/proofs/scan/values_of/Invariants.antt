-- The results so far are values.
use Rattle.std.proofs.Common.{◌≡◌, map, Ok}
use Rattle.sym_scan.proofs.scan.values_of.Given as goal

abbrev pub invariant-results : goal.invariant-results
invariant-results g l = map Ok l.values.items ≡ l.yielded
