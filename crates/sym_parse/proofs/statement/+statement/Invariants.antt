-- Each call takes a token, or comes to a function further down.
use Rattle.std.proofs.Common.{◌+◌, ◌*◌, length}
use Rattle.sym_parse.proofs.statement.+statement.Given as goal

abbrev pub decreases-block : goal.decreases-block
decreases-block l = 8 * length l.cursor.now.rest.now + 1

abbrev pub decreases-branches : goal.decreases-branches
decreases-branches l = 8 * length l.cursor.now.rest.now + 1

abbrev pub decreases-else_part : goal.decreases-else_part
decreases-else_part l = 8 * length l.cursor.now.rest.now + 0

abbrev pub decreases-if_statement : goal.decreases-if_statement
decreases-if_statement l = 8 * length l.cursor.now.rest.now + 0

abbrev pub decreases-otherwise : goal.decreases-otherwise
decreases-otherwise l = 8 * length l.cursor.now.rest.now + 2

abbrev pub decreases-statement : goal.decreases-statement
decreases-statement l = 8 * length l.cursor.now.rest.now + 1

abbrev pub decreases-statements : goal.decreases-statements
decreases-statements l = 8 * length l.cursor.now.rest.now + 3

abbrev pub decreases-statements_from : goal.decreases-statements_from
decreases-statements_from l = 8 * length l.cursor.now.rest.now + 2
