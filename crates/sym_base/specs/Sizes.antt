-- What a script's limits count: levels that are open at once, operands and statements.
use Rattle.std.specs.Prelude.{ℕ, ◌+◌, max, if◌then◌else◌}
use Rattle.sym_base.specs.Trees.{ExprTree, Num, Words, Named, Call, Neg, Not, Bin, ExprsTree, End, More, StmtTree, Let, Set, Push, Keep, KeepFrom, If, StmtsTree, Done, Then}
use Rattle.sym_base.specs.Precedence.{needs_parentheses, left_level, right_level, not_level, sign_level}

-- The depth of an operand where this level is wanted, from its depth without parentheses.
abbrev pub operand_depth : ℕ → ExprTree → ℕ → ℕ
operand_depth wanted e depth = if needs_parentheses wanted e then depth + 1 else depth

-- The most parentheses, calls, `not`s and unary `-`s that are open at once.
abbrev mutual
  pub expr_depth : ExprTree → ℕ
  expr_depth (Num n at) = 0
  expr_depth (Words text at) = 0
  expr_depth (Named name) = 0
  expr_depth (Call name arguments) = exprs_depth arguments + 1
  expr_depth (Neg e at) = operand_depth sign_level e (expr_depth e) + 1
  expr_depth (Not e at) = operand_depth not_level e (expr_depth e) + 1
  expr_depth (Bin op left right at) =
      max (operand_depth (left_level op) left (expr_depth left))
      (operand_depth (right_level op) right (expr_depth right))

  pub exprs_depth : ExprsTree → ℕ
  exprs_depth End = 0
  exprs_depth (More e rest) = max (expr_depth e) (exprs_depth rest)

-- The numbers, texts and names, a call's name included.
abbrev mutual
  pub operand_count : ExprTree → ℕ
  operand_count (Num n at) = 1
  operand_count (Words text at) = 1
  operand_count (Named name) = 1
  operand_count (Call name arguments) = 1 + operands_count arguments
  operand_count (Neg e at) = operand_count e
  operand_count (Not e at) = operand_count e
  operand_count (Bin op left right at) = operand_count left + operand_count right

  pub operands_count : ExprsTree → ℕ
  operands_count End = 0
  operands_count (More e rest) = operand_count e + operands_count rest

-- An `if` is open in its condition and in both its lists, so an `else if` is open inside the `if`
-- before it. The parentheses of a `keep` don't count.
abbrev mutual
  pub stmt_depth : StmtTree → ℕ
  stmt_depth (Let name value) = expr_depth value
  stmt_depth (Set name value) = expr_depth value
  stmt_depth (Push name value) = expr_depth value
  stmt_depth (Keep name values) = exprs_depth values
  stmt_depth (KeepFrom name source) = 0
  stmt_depth (If condition then_list else_list) =
      max (expr_depth condition) (max (stmts_depth then_list) (stmts_depth else_list)) + 1

  pub stmts_depth : StmtsTree → ℕ
  stmts_depth Done = 0
  stmts_depth (Then first rest) = max (stmt_depth first) (stmts_depth rest)

-- The statements, those inside an `if` included.
abbrev mutual
  pub stmt_count : StmtTree → ℕ
  stmt_count (Let name value) = 1
  stmt_count (Set name value) = 1
  stmt_count (Push name value) = 1
  stmt_count (Keep name values) = 1
  stmt_count (KeepFrom name source) = 1
  stmt_count (If condition then_list else_list) = 1 + stmts_count then_list + stmts_count else_list

  pub stmts_count : StmtsTree → ℕ
  stmts_count Done = 0
  stmts_count (Then first rest) = stmt_count first + stmts_count rest
