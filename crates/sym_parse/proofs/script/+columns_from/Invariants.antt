use Rattle.std.proofs.Common.{length}
use Rattle.sym_parse.proofs.script.+columns_from.Given as goal

abbrev pub decreases-columns_from : goal.decreases-columns_from
decreases-columns_from l = length l.cursor.now.rest.now
