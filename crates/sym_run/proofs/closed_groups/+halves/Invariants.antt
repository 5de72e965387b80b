use Rattle.std.proofs.Common.{◌+◌, ◌-◌, ◌*◌}
use Rattle.sym_run.proofs.closed_groups.+halves.Given as goal

abbrev pub decreases-join_each : goal.decreases-join_each
decreases-join_each g l = 4 * l.threads

abbrev pub decreases-join_both : goal.decreases-join_both
decreases-join_both g l = 4 * (l.threads.low + l.threads.high) - 1

abbrev pub decreases-join_both-first : goal.decreases-join_both-first
decreases-join_both-first g l = 4 * l.threads-low + 1

abbrev pub decreases-join_both-second : goal.decreases-join_both-second
decreases-join_both-second g l = 4 * l.threads-high + 1
