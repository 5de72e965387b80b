-- As far as the loop has come the lists are equal, but for the one outcome that was found.
use Rattle.std.proofs.Common.{◌≡◌, length}
use Rattle.sym_pred.proofs.DifferenceLemmas.{Front}
use Rattle.sym_pred.proofs.facts.compare.Given as goal

abbrev pub invariant-places : goal.invariant-places
invariant-places l = (length l.right ≡ length l.left) × Front l.left l.right l.index l.found
