-- A call prints a smaller tree, or comes to a function further down.
use Rattle.std.proofs.Common.{◌+◌, ◌*◌}
use Rattle.sym_base.specs.declared.tree.statement.Stmt.{size-Stmt}
use Rattle.sym_base.specs.declared.tree.statement.Stmts.{size-Stmts}
use Rattle.sym_parse.proofs.printer.statement.+print_statement.Given as goal

abbrev pub decreases-print_stmt : goal.decreases-print_stmt
decreases-print_stmt l = 3 * size-Stmt l.stmt.now

abbrev pub decreases-print_stmts : goal.decreases-print_stmts
decreases-print_stmts l = 3 * size-Stmts l.stmts.now

abbrev pub decreases-print_block : goal.decreases-print_block
decreases-print_block l = 3 * size-Stmts l.stmts.now + 1

abbrev pub decreases-print_else : goal.decreases-print_else
decreases-print_else l = 3 * size-Stmts l.stmts.now + 2
