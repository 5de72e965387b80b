use Rattle.std.proofs.Common.{length}
use Rattle.sym_parse.proofs.script.+states_from.Given as goal

abbrev pub decreases-states_from : goal.decreases-states_from
decreases-states_from l = length l.cursor.now.rest.now
