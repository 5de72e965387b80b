-- The end is within the others.
use Rattle.std.proofs.Common.{◌≤◌, length}
use Rattle.sym_path.proofs.composition.last_going_on.Given as goal

abbrev pub invariant-others : goal.invariant-others
invariant-others l = l.end ≤ length l.others

abbrev pub decreases-others : goal.decreases-others
decreases-others l = l.end
