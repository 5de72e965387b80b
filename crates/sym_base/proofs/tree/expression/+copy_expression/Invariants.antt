-- The copied expressions stand before those that are left, which are no deeper than all.
use Rattle.std.proofs.Common.{◌≡◌, ◌≤◌, map}
use Rattle.sym_base.specs.declared.tree.expression.Exprs.{size-Exprs}
use Rattle.sym_base.specs.Trees.{expr_tree, exprs_tree, exprs_before}
use Rattle.sym_base.proofs.tree.expression.+copy_expression.Given as goal

abbrev pub invariant-Exprs::copies-expressions : goal.invariant-Exprs::copies-expressions
invariant-Exprs::copies-expressions l =
    (size-Exprs l.left ≤ size-Exprs l.fn.self)
    × (exprs_before (map expr_tree l.copied.items) (exprs_tree l.left) ≡ exprs_tree l.fn.self)
