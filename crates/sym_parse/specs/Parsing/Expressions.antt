-- Expressions.
use Rattle.std.specs.Prelude.{ℕ, zero, suc, length, Option, None, Some, Ok}
use Rattle.sym_base.specs.declared.tree.name.Name.{Name}
use Rattle.sym_base.specs.declared.tree.expression.BinOp.{BinOp}
use Rattle.sym_base.specs.Trees.{ExprTree, ExprsTree, Num, Words, Named, Call, Neg, Not, Bin, End, More}
use Rattle.sym_lex.specs.declared.keyword.Keyword.TheVariants as keyword
use Rattle.sym_lex.specs.declared.symbol.Symbol.TheVariants as symbol
use Rattle.sym_parse.specs.declared.error.LimitKind.{LimitKind}
use Rattle.sym_parse.specs.declared.error.LimitKind.TheVariants as limit
use Rattle.sym_parse.specs.Lexemes.{Terminal}
use Rattle.sym_parse.specs.Syntax.Expressions.{Line, Whole, Negation, Signed, or_op, and_op, compare_op, sum_op, product_op}
use Rattle.sym_parse.specs.Steps.{Parser, and_then, ◌>>=◌, ◌>>◌, pure, choose, refuse, here, bump, next, sees_word, sees_sign, sees_name, sees_number, sees_text, sign, name, number, text, opening, one_operand}

-- The operator of the next token, if it is one of a line's.
abbrev pub op_in : (Terminal → Option BinOp) → Option Terminal → Option BinOp
op_in ops None = None
op_in ops (Some t) = ops t

-- {operator item}, grouped to the left. Each turn takes a token, so the number of tokens bounds the
-- turns.
module _ (ops : Terminal → Option BinOp) (item : Parser ExprTree) where
  abbrev pub chain_turn : (ExprTree → Parser ExprTree) → ExprTree → Option BinOp → Parser ExprTree
  chain_turn more left None = pure left
  chain_turn more left (Some b) = do
    at ← here
    bump
    right ← item
    more (Bin b left right at)

  unfoldable pub chain_from : ℕ → ExprTree → Parser ExprTree
  chain_from zero left = pure left
  chain_from (suc n) left = λ i. chain_turn (chain_from n) left (op_in ops (next i)) i

  -- item {operator item}
  unfoldable pub chain : Parser ExprTree
  chain = do
    first ← item
    (λ i. chain_from (suc (length i.rest)) first i)

-- expression {"," expression}
module _ (item : Parser ExprTree) where
  -- Each turn takes a token, so the number of tokens bounds the turns.
  abbrev pub further : Parser ExprsTree → Parser ExprsTree
  further more = choose (sees_sign symbol.Comma) (bump >> more) (pure End)

  abbrev pub values_turn : Parser ExprsTree → Parser ExprsTree
  values_turn more = do
    first ← item
    rest ← further more
    pure (More first rest)

  unfoldable pub values_from : ℕ → Parser ExprsTree
  values_from zero = refuse
  values_from (suc n) = values_turn (values_from n)

  unfoldable pub values : Parser ExprsTree
  values = λ i. values_from (suc (length i.rest)) i

-- With these numbers, so many levels free, and what the lines mean one level deeper.
module _ (most : LimitKind → ℕ) (room : ℕ) (deeper : Line → Parser ExprTree) where
  -- NAME ["(" expr {"," expr} ")"], after the name
  unfoldable pub call : Name → Parser ExprTree
  call n = do
    opening room
    es ← values (deeper Whole)
    sign symbol.CloseParen
    pure (Call n es)

  unfoldable pub call_or_name : Name → Parser ExprTree
  call_or_name n = choose (sees_sign symbol.OpenParen) (call n) (pure (Named n))

  unfoldable pub number_leaf : Parser ExprTree
  number_leaf = do
    one_operand (most limit.Operands)
    at ← here
    n ← number
    pure (Num n at)

  unfoldable pub text_leaf : Parser ExprTree
  text_leaf = do
    one_operand (most limit.Operands)
    at ← here
    t ← text
    pure (Words t at)

  unfoldable pub named : Parser ExprTree
  named = do
    one_operand (most limit.Operands)
    n ← name
    call_or_name n

  unfoldable pub parens : Parser ExprTree
  parens = do
    opening room
    e ← deeper Whole
    sign symbol.CloseParen
    pure e

  -- primary = NUMBER | TEXT | NAME ["(" expr {"," expr} ")"] | "(" expr ")"
  unfoldable pub primary : Parser ExprTree
  primary =
      choose sees_number number_leaf
      (choose sees_text text_leaf
      (choose sees_name named
      (choose (sees_sign symbol.OpenParen) parens
      refuse)))

  unfoldable pub minus : Parser ExprTree
  minus = do
    at ← here
    opening room
    e ← deeper Signed
    pure (Neg e at)

  -- unary = "-" unary | primary
  unfoldable pub unary : Parser ExprTree
  unary = choose (sees_sign symbol.Minus) minus primary

  -- prod = unary {("*" | "/" | "%") unary}
  unfoldable pub product : Parser ExprTree
  product = chain product_op unary

  -- sum = prod {("+" | "-") prod}
  unfoldable pub sum : Parser ExprTree
  sum = chain sum_op product

  abbrev pub relation_turn : ExprTree → Option BinOp → Parser ExprTree
  relation_turn left None = pure left
  relation_turn left (Some b) = do
    at ← here
    bump
    right ← sum
    pure (Bin b left right at)

  -- rel = sum [("==" | "!=" | "<" | "<=" | ">" | ">=" | "is") sum]
  unfoldable pub relation : Parser ExprTree
  relation = do
    left ← sum
    (λ i. relation_turn left (op_in compare_op (next i)) i)

  unfoldable pub not_line : Parser ExprTree
  not_line = do
    at ← here
    opening room
    e ← deeper Negation
    pure (Not e at)

  -- neg = "not" neg | rel
  unfoldable pub negation : Parser ExprTree
  negation = choose (sees_word keyword.Not) not_line relation

  -- conj = neg {"and" neg}
  unfoldable pub conjunction : Parser ExprTree
  conjunction = chain and_op negation

  -- expr = conj {"or" conj}
  unfoldable pub expr : Parser ExprTree
  expr = chain or_op conjunction

  abbrev pub line : Line → Parser ExprTree
  line Whole = expr
  line Negation = negation
  line Signed = unary

module _ (most : LimitKind → ℕ) where
  -- The lines where fewer than so many levels are open at once.
  unfoldable pub lines : ℕ → Line → Parser ExprTree
  lines zero x = refuse
  lines (suc room) x = line most room (lines room) x

  -- A whole expression, with so many levels free. Its operands are counted from 0, and none counts
  -- after it.
  unfoldable pub expression : ℕ → Parser ExprTree
  expression room = λ i.
      and_then (expr most room (lines room) (record i { operands = 0 }))
      (λ e j. Ok (e, record j { operands = 0 }))
