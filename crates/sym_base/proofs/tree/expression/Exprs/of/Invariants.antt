-- The expressions that are left stand before those of the list.
use Rattle.std.proofs.Common.{◌≡◌, map, vec_len}
use Rattle.sym_base.specs.Trees.{End, expr_tree, exprs_tree, exprs_before}
use Rattle.sym_base.proofs.tree.expression.Exprs.of.Given as goal

abbrev pub invariant-expressions : goal.invariant-expressions
invariant-expressions l =
    exprs_before (map expr_tree l.items.items) (exprs_tree l.list) ≡ exprs_before (map expr_tree l.fn.items.items) End

abbrev pub decreases-expressions : goal.decreases-expressions
decreases-expressions l = vec_len l.items
