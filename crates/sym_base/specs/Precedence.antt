-- How tightly expressions bind, and which operands need parentheses.
-- The levels are the lines of the grammar: `or` binds loosest, and a number, a text, a name, a call
-- or an expression in parentheses binds tightest.
use Rattle.std.specs.Prelude.{ℕ, Bool, nat_lt}
use Rattle.sym_base.specs.declared.tree.expression.BinOp.{BinOp}
use Rattle.sym_base.specs.declared.tree.expression.BinOp.TheVariants as op
use Rattle.sym_base.specs.Trees.{ExprTree, Num, Words, Named, Call, Neg, Not, Bin}

abbrev pub or_level : ℕ
or_level = 0

abbrev pub and_level : ℕ
and_level = 1

abbrev pub not_level : ℕ
not_level = 2

-- Comparisons and `is`.
abbrev pub relation_level : ℕ
relation_level = 3

-- `+` and `-` of two operands.
abbrev pub sum_level : ℕ
sum_level = 4

-- `*`, `/` and `%`.
abbrev pub product_level : ℕ
product_level = 5

-- Unary `-`.
abbrev pub sign_level : ℕ
sign_level = 6

abbrev pub primary_level : ℕ
primary_level = 7

abbrev pub op_level : BinOp → ℕ
op_level op.Or = or_level
op_level op.And = and_level
op_level op.Eq = relation_level
op_level op.Ne = relation_level
op_level op.Lt = relation_level
op_level op.Le = relation_level
op_level op.Gt = relation_level
op_level op.Ge = relation_level
op_level op.Is = relation_level
op_level op.Add = sum_level
op_level op.Sub = sum_level
op_level op.Mul = product_level
op_level op.Div = product_level
op_level op.Rem = product_level

-- The loosest level that may stand to the left of the operator without parentheses: operators of
-- one level group to the left, and relations don't chain.
abbrev pub left_level : BinOp → ℕ
left_level op.Or = or_level
left_level op.And = and_level
left_level op.Eq = sum_level
left_level op.Ne = sum_level
left_level op.Lt = sum_level
left_level op.Le = sum_level
left_level op.Gt = sum_level
left_level op.Ge = sum_level
left_level op.Is = sum_level
left_level op.Add = sum_level
left_level op.Sub = sum_level
left_level op.Mul = product_level
left_level op.Div = product_level
left_level op.Rem = product_level

-- And to its right.
abbrev pub right_level : BinOp → ℕ
right_level op.Or = and_level
right_level op.And = not_level
right_level op.Eq = sum_level
right_level op.Ne = sum_level
right_level op.Lt = sum_level
right_level op.Le = sum_level
right_level op.Gt = sum_level
right_level op.Ge = sum_level
right_level op.Is = sum_level
right_level op.Add = product_level
right_level op.Sub = product_level
right_level op.Mul = sign_level
right_level op.Div = sign_level
right_level op.Rem = sign_level

abbrev pub expr_level : ExprTree → ℕ
expr_level (Num n at) = primary_level
expr_level (Words text at) = primary_level
expr_level (Named name) = primary_level
expr_level (Call name arguments) = primary_level
expr_level (Neg e at) = sign_level
expr_level (Not e at) = not_level
expr_level (Bin op left right at) = op_level op

-- Whether an expression needs parentheses where one of this level or a tighter one is wanted.
abbrev pub needs_parentheses : ℕ → ExprTree → Bool
needs_parentheses wanted e = nat_lt (expr_level e) wanted
