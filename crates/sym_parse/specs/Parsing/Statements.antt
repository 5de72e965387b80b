-- Statements.
use Rattle.std.specs.Prelude.{ℕ, zero, suc, Bool, ◌||◌, length}
use Rattle.sym_base.specs.declared.tree.name.Name.{Name}
use Rattle.sym_base.specs.Trees.{StmtTree, StmtsTree, Let, Set, Push, Keep, KeepFrom, If, Done, Then}
use Rattle.sym_lex.specs.declared.keyword.Keyword.TheVariants as keyword
use Rattle.sym_lex.specs.declared.symbol.Symbol.TheVariants as symbol
use Rattle.sym_parse.specs.declared.error.LimitKind.{LimitKind}
use Rattle.sym_parse.specs.declared.error.LimitKind.TheVariants as limit
use Rattle.sym_parse.specs.Steps.{Input, Parser, ◌>>=◌, ◌>>◌, pure, choose, refuse, bump, sees_word, sees_sign, sees_name, word, sign, name, one_statement, opening}
use Rattle.sym_parse.specs.Parsing.Expressions.{expression, values}

-- The next token can begin a statement.
unfoldable pub begins_statement : Input → Bool
begins_statement i =
    sees_name i
    || (sees_word keyword.Let i
    || (sees_word keyword.Push i
    || (sees_word keyword.Keep i
    || sees_word keyword.If i)))

-- "from" NAME ";", after the name of the cell that keeps
unfoldable pub kept_cell : Name → Parser StmtTree
kept_cell n = do
  word keyword.From
  source ← name
  sign symbol.Semicolon
  pure (KeepFrom n source)

-- With these numbers, so many levels free, and an `if` statement here.
module _ (most : LimitKind → ℕ) (room : ℕ) (if_here : Parser StmtTree) where
  unfoldable pub binding : Parser StmtTree
  binding = do
    word keyword.Let
    n ← name
    sign symbol.Assign
    e ← expression most room
    sign symbol.Semicolon
    pure (Let n e)

  unfoldable pub assignment : Parser StmtTree
  assignment = do
    n ← name
    sign symbol.Assign
    e ← expression most room
    sign symbol.Semicolon
    pure (Set n e)

  unfoldable pub push : Parser StmtTree
  push = do
    word keyword.Push
    n ← name
    e ← expression most room
    sign symbol.Semicolon
    pure (Push n e)

  unfoldable pub kept_values : Name → Parser StmtTree
  kept_values n = do
    sign symbol.OpenParen
    es ← values (expression most room)
    sign symbol.CloseParen
    sign symbol.Semicolon
    pure (Keep n es)

  unfoldable pub keep : Parser StmtTree
  keep = do
    word keyword.Keep
    n ← name
    choose (sees_sign symbol.OpenParen) (kept_values n) (kept_cell n)

  -- A statement that is no `if`.
  unfoldable pub simple : Parser StmtTree
  simple =
      choose (sees_word keyword.Let) binding
      (choose (sees_word keyword.Push) push
      (choose (sees_word keyword.Keep) keep
      assignment))

  -- stmt = "let" NAME "=" expr ";" | NAME "=" expr ";" | "push" NAME expr ";"
  --      | "keep" NAME ( "(" expr {"," expr} ")" | "from" NAME ) ";" | if
  unfoldable pub statement : Parser StmtTree
  statement =
      choose (sees_word keyword.If) if_here (one_statement (most limit.Statements) >> simple)

  abbrev pub one_more : Parser StmtsTree → Parser StmtsTree
  one_more more = do
    first ← statement
    rest ← more
    pure (Then first rest)

  abbrev pub statements_turn : Parser StmtsTree → Parser StmtsTree
  statements_turn more = choose begins_statement (one_more more) (pure Done)

  -- {stmt}. Each turn takes a token, so the number of tokens bounds the turns.
  unfoldable pub statements_from : ℕ → Parser StmtsTree
  statements_from zero = pure Done
  statements_from (suc n) = statements_turn (statements_from n)

  unfoldable pub statements : Parser StmtsTree
  statements = λ i. statements_from (suc (length i.rest)) i

  -- block = "{" {stmt} "}"
  unfoldable pub block : Parser StmtsTree
  block = do
    sign symbol.OpenBrace
    ss ← statements
    sign symbol.CloseBrace
    pure ss

  -- (block | if), after an `else`
  unfoldable pub otherwise : Parser StmtsTree
  otherwise = choose (sees_word keyword.If)
      (do s ← if_here; pure (Then s Done))
      block

  -- ["else" (block | if)]
  unfoldable pub else_part : Parser StmtsTree
  else_part = choose (sees_word keyword.Else) (bump >> otherwise) (pure Done)

  -- if = "if" expr block ["else" (block | if)], after the `if`
  unfoldable pub branches : Parser StmtTree
  branches = do
    e ← expression most room
    body ← block
    rest ← else_part
    pure (If e body rest)

module _ (most : LimitKind → ℕ) where
  -- An `if` statement, with so many levels free. It opens one.
  unfoldable pub if_statement : ℕ → Parser StmtTree
  if_statement zero = do
    one_statement (most limit.Statements)
    opening zero
    refuse
  if_statement (suc room) = do
    one_statement (most limit.Statements)
    opening (suc room)
    branches most room (if_statement room)

  -- update = "update" block. Its statements are counted from 0.
  unfoldable pub update : Parser StmtsTree
  update = do
    word keyword.Update
    (λ i.
        block most (most limit.Depth) (if_statement (most limit.Depth))
        (record i { statements = 0 }))
