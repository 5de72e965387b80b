use Rattle.std.proofs.Common.{length}
use Rattle.sym_parse.proofs.script.+enums_from.Given as goal

abbrev pub decreases-enums_from : goal.decreases-enums_from
decreases-enums_from l = length l.cursor.now.rest.now
