use Rattle.std.proofs.Common.{length}
use Rattle.sym_parse.proofs.script.+tests_from.Given as goal

abbrev pub decreases-tests_from : goal.decreases-tests_from
decreases-tests_from l = length l.cursor.now.rest.now
