use Rattle.std.proofs.Common.{length}
use Rattle.sym_parse.proofs.declaration.+params_from.Given as goal

abbrev pub decreases-params_from : goal.decreases-params_from
decreases-params_from l = length l.cursor.now.rest.now
