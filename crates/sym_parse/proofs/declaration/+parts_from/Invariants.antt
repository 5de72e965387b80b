use Rattle.std.proofs.Common.{length}
use Rattle.sym_parse.proofs.declaration.+parts_from.Given as goal

abbrev pub decreases-parts_from : goal.decreases-parts_from
decreases-parts_from l = length l.cursor.now.rest.now
