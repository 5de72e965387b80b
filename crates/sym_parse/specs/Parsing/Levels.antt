-- The lines whose operators group to the left, by level.
use Rattle.std.specs.Prelude.{ℕ, Option}
use Rattle.sym_base.specs.declared.tree.expression.BinOp.{BinOp}
use Rattle.sym_base.specs.Trees.{ExprTree}
use Rattle.sym_parse.specs.declared.operators.Level.{Level}
use Rattle.sym_parse.specs.declared.operators.Level.TheVariants.{Or, And, Sum, Product}
use Rattle.sym_parse.specs.declared.error.LimitKind.{LimitKind}
use Rattle.sym_parse.specs.Lexemes.{Terminal}
use Rattle.sym_parse.specs.Syntax.Expressions.{Line, or_op, and_op, sum_op, product_op}
use Rattle.sym_parse.specs.Steps.{Parser}
use Rattle.sym_parse.specs.Parsing.Expressions.{expr, conjunction, negation, sum, product, unary}

-- The operators of a level.
abbrev pub op_at : Level → Terminal → Option BinOp
op_at Or = or_op
op_at And = and_op
op_at Sum = sum_op
op_at Product = product_op

module _ (most : LimitKind → ℕ) (room : ℕ) (deeper : Line → Parser ExprTree) where
  -- What stands between the operators of a level.
  unfoldable pub item_at : Level → Parser ExprTree
  item_at Or = conjunction most room deeper
  item_at And = negation most room deeper
  item_at Sum = product most room deeper
  item_at Product = unary most room deeper

  -- The line of a level.
  unfoldable pub chain_at : Level → Parser ExprTree
  chain_at Or = expr most room deeper
  chain_at And = conjunction most room deeper
  chain_at Sum = sum most room deeper
  chain_at Product = product most room deeper
