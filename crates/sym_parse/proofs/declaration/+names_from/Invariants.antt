use Rattle.std.proofs.Common.{length}
use Rattle.sym_parse.proofs.declaration.+names_from.Given as goal

abbrev pub decreases-names_from : goal.decreases-names_from
decreases-names_from l = length l.cursor.now.rest.now
