use Rattle.std.proofs.Common.{◌+◌, ◌*◌}
use Rattle.sym_fork.proofs.indices.+calls.Given as goal

abbrev pub decreases-calls_below : goal.decreases-calls_below
decreases-calls_below g l = 2 * l.count

abbrev pub decreases-below : goal.decreases-below
decreases-below g l = 2 * l.last + 1
