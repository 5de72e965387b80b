-- What is left of the list is no deeper than the list.
use Rattle.std.proofs.Common.{◌≤◌}
use Rattle.sym_base.specs.declared.tree.expression.Exprs.{size-Exprs}
use Rattle.sym_base.proofs.+expression.Given as goal

abbrev pub invariant-tree::expression::Exprs::drop-expressions :
    goal.invariant-tree::expression::Exprs::drop-expressions
invariant-tree::expression::Exprs::drop-expressions l = size-Exprs l.self ≤ size-Exprs l.fn.self
