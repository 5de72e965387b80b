use Rattle.std.proofs.Common.{◌-◌}
use Rattle.sym_run_tests.proofs.orders.+joined.Given as goal

abbrev pub decreases-joined : goal.decreases-joined
decreases-joined l = l.hi - l.lo
