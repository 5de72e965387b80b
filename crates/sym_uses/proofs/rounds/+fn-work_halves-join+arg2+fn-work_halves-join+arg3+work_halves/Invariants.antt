use Rattle.std.proofs.Common.{◌+◌, ◌*◌, vec_len}
use Rattle.sym_uses.proofs.rounds.+fn-work_halves-join+arg2+fn-work_halves-join+arg3+work_halves.Given as goal

abbrev pub decreases-join+arg2 : goal.decreases-join+arg2
decreases-join+arg2 g l = 2 * vec_len l.passes + 1

abbrev pub decreases-join+arg3 : goal.decreases-join+arg3
decreases-join+arg3 g l = 2 * vec_len l.rest + 1

abbrev pub decreases-work_halves : goal.decreases-work_halves
decreases-work_halves g l = 2 * vec_len l.passes
