use Rattle.std.proofs.Common.{length}
use Rattle.sym_parse.proofs.script.+fields_from.Given as goal

abbrev pub decreases-fields_from : goal.decreases-fields_from
decreases-fields_from l = length l.cursor.now.rest.now
