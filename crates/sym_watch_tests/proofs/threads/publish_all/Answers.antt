use Rattle.std.proofs.Common.{arith}
use Rattle.sym_watch_tests.proofs.threads.publish_all.Goals as goal

pub publish_to-requires : goal.publish_to-requires
publish_to-requires g c q e = omega (arith, c.borders.invariant q e)
