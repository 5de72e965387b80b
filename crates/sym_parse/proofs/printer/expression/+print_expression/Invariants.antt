-- What is written and the text of what is left make the whole; and what is left is no deeper.
use Rattle.std.proofs.Common.{◌≡◌, ◌≤◌, ◌+◌, ◌*◌, ◌++◌}
use Rattle.sym_base.specs.declared.tree.expression.Expr.{size-Expr}
use Rattle.sym_base.specs.declared.tree.expression.Exprs.{size-Exprs}
use Rattle.sym_base.specs.Trees.{exprs_tree}
use Rattle.sym_parse.specs.Printed.{further_exprs, text}
use Rattle.sym_parse.proofs.printer.expression.+print_expression.Given as goal

abbrev pub invariant-print_further-expressions : goal.invariant-print_further-expressions
invariant-print_further-expressions l =
    (size-Exprs l.left ≤ size-Exprs l.fn.exprs)
    × (l.out.items ++ text (further_exprs (exprs_tree l.left))
    ≡ l.fn.out.items ++ text (further_exprs (exprs_tree l.fn.exprs)))

-- A call prints a smaller tree, or comes to a function further down.
abbrev pub decreases-print_expr : goal.decreases-print_expr
decreases-print_expr l = 2 * size-Expr l.expr.now

abbrev pub decreases-print_operand : goal.decreases-print_operand
decreases-print_operand l = 2 * size-Expr l.operand.now + 1

abbrev pub decreases-print_exprs : goal.decreases-print_exprs
decreases-print_exprs l = 2 * size-Exprs l.exprs.now

abbrev pub decreases-print_further : goal.decreases-print_further
decreases-print_further l = 2 * size-Exprs l.exprs.now
