-- Each call has fewer jobs.
use Rattle.std.proofs.Common.{◌+◌, ◌*◌, length}
use Rattle.sym_fork.proofs.jobs.+jobs.Given as goal

abbrev pub decreases-jobs_done : goal.decreases-jobs_done
decreases-jobs_done g l = 2 * length l.jobs.items

abbrev pub decreases-before : goal.decreases-before
decreases-before g l = 2 * length l.jobs.items + 1
