-- Each call has fewer bounds.
use Rattle.std.proofs.Common.{◌+◌, ◌*◌, length}
use Rattle.sym_shuffle.proofs.led_batches.+parts.Given as goal

abbrev pub decreases-lead_each : goal.decreases-lead_each
decreases-lead_each g l = 4 * length l.bounds.now

abbrev pub decreases-lead_both : goal.decreases-lead_both
decreases-lead_both g l = 4 * length l.cut.now.bounds.now + 3

abbrev pub decreases-lead_both-second : goal.decreases-lead_both-second
decreases-lead_both-second g l = 4 * length l.bounds.now + 1
