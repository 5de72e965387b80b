use Rattle.std.proofs.Common.{◌+◌, ◌-◌, ◌*◌}
use Rattle.sym_run.proofs.led_groups.+halves.Given as goal

abbrev pub decreases-lead_all : goal.decreases-lead_all
decreases-lead_all g l = 4 * l.threads

abbrev pub decreases-lead_both : goal.decreases-lead_both
decreases-lead_both g l = 4 * (l.low.threads + l.high.threads) - 1

abbrev pub decreases-lead_both-first : goal.decreases-lead_both-first
decreases-lead_both-first g l = 4 * l.low-threads + 1

abbrev pub decreases-lead_both-second : goal.decreases-lead_both-second
decreases-lead_both-second g l = 4 * l.high-threads + 1
