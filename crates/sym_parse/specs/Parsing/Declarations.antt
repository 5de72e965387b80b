-- Declarations and the report's columns.
use Rattle.std.specs.Prelude.{ℕ, ◌-◌, ℤ, neg_ℤ, Bool, true, false, ◌||◌, List, [], ◌∷◌, Option, None, Some}
use Rattle.sym_base.specs.declared.tree.name.Name.{Name}
use Rattle.sym_base.specs.declared.tree.declaration.EnumDecl.{EnumDecl}
use Rattle.sym_base.specs.declared.tree.declaration.FieldDecl.{FieldDecl}
use Rattle.sym_base.specs.declared.tree.declaration.KindRef.{KindRef}
use Rattle.sym_base.specs.declared.tree.declaration.KindRef.TheVariants as kind
use Rattle.sym_base.specs.declared.tree.declaration.Literal.{Literal}
use Rattle.sym_base.specs.declared.tree.declaration.Literal.TheVariants as literal
use Rattle.sym_base.specs.declared.tree.declaration.Part.{Part}
use Rattle.sym_base.specs.declared.tree.declaration.CellDecl.{CellDecl}
use Rattle.sym_base.specs.declared.tree.declaration.CellDecl.TheVariants as cell
use Rattle.sym_base.specs.declared.tree.declaration.StateDecl.{StateDecl}
use Rattle.sym_base.specs.declared.tree.declaration.Param.{Param}
use Rattle.sym_base.specs.Trees.{TestTree, ColumnTree}
use Rattle.sym_lex.specs.declared.keyword.Keyword.TheVariants as keyword
use Rattle.sym_lex.specs.declared.symbol.Symbol.TheVariants as symbol
use Rattle.sym_parse.specs.declared.error.LimitKind.{LimitKind}
use Rattle.sym_parse.specs.declared.error.LimitKind.TheVariants as limit
use Rattle.sym_parse.specs.Steps.{Input, Parser, ◌>>=◌, ◌>>◌, pure, choose, here, bump, sees_word, sees_sign, sees_name, sees_text, word, sign, name, number, text, separated}
use Rattle.sym_parse.specs.Parsing.Expressions.{expression}

-- num = ["-"] NUMBER
unfoldable pub num : Parser ℤ
num = choose (sees_sign symbol.Minus) (do bump; n ← number; pure (neg_ℤ n)) number

-- literal = num | TEXT | NAME
unfoldable pub literal_value : Parser Literal
literal_value =
    choose sees_text (do at ← here; t ← text; pure (literal.Text t at))
    (choose sees_name (do n ← name; pure (literal.Named n))
    (do at ← here; n ← num; pure (literal.Num n at)))

-- The next token can begin a kind.
unfoldable pub begins_kind : Input → Bool
begins_kind i = sees_name i || (sees_word keyword.Num i || sees_word keyword.Word i)

-- kind = "num" | "word" | NAME
unfoldable pub kind_ref : Parser KindRef
kind_ref =
    choose (sees_word keyword.Num) (bump >> pure kind.Num)
    (choose (sees_word keyword.Word) (bump >> pure kind.Word)
    (do n ← name; pure (kind.Named n)))

-- ["from" TEXT]
unfoldable pub header : Parser (Option (List ℕ))
header = choose (sees_word keyword.From) (do bump; t ← text; pure (Some t)) (pure None)

-- ["else" literal]
unfoldable pub default_value : Parser (Option Literal)
default_value =
    choose (sees_word keyword.Else) (do bump; v ← literal_value; pure (Some v)) (pure None)

-- field = "field" NAME ["from" TEXT] ":" kind ["else" literal] ";"
unfoldable pub field : Parser FieldDecl
field = do
  word keyword.Field
  n ← name
  h ← header
  sign symbol.Colon
  k ← kind_ref
  d ← default_value
  sign symbol.Semicolon
  pure (record { name = n; header = h; kind = k; default = d })

-- range = "[" num ".." num "]"
unfoldable pub range : Parser (ℤ × ℤ)
range = do
  sign symbol.OpenBracket
  lo ← num
  sign symbol.DotDot
  hi ← num
  sign symbol.CloseBracket
  pure (lo, hi)

-- ["clamp"], and whether it is there
unfoldable pub clamp : Parser Bool
clamp = choose (sees_word keyword.Clamp) (bump >> pure true) (pure false)

-- kind "=" literal
unfoldable pub part : Parser Part
part = do
  k ← kind_ref
  sign symbol.Assign
  v ← literal_value
  pure (record { kind = k; first = v })

-- param = NAME ":" kind
unfoldable pub param : Parser Param
param = do
  n ← name
  sign symbol.Colon
  k ← kind_ref
  pure (record { name = n; kind = k })

module _ (most : LimitKind → ℕ) where
  -- NAME {"," NAME}
  unfoldable pub names : LimitKind → Parser (List Name)
  names which = do
    n ← name
    separated which sees_name name (most which - 1) (n ∷ [])

  -- enum = "enum" NAME "{" NAME {"," NAME} "}"
  unfoldable pub enum_decl : Parser EnumDecl
  enum_decl = do
    word keyword.Enum
    n ← name
    sign symbol.OpenBrace
    ls ← names limit.Labels
    sign symbol.CloseBrace
    pure (record { name = n; labels = ls })

  -- group = "group" NAME {"," NAME} ";", or none
  unfoldable pub group : Parser (List Name)
  group =
      choose (sees_word keyword.Group)
      (do bump; ns ← names limit.GroupFields; sign symbol.Semicolon; pure ns)
      (pure [])

  -- kind "=" literal {"," kind "=" literal}
  unfoldable pub parts : Parser (List Part)
  parts = do
    p ← part
    separated limit.Parts begins_kind part (most limit.Parts - 1) (p ∷ [])

  unfoldable pub int_cell : Parser CellDecl
  int_cell = do
    word keyword.Int
    r ← range
    sign symbol.Assign
    first ← num
    c ← clamp
    pure (cell.Int r.0 r.1 first c)

  unfoldable pub nums_cell : Parser CellDecl
  nums_cell = do
    word keyword.Nums
    r ← range
    c ← clamp
    pure (cell.Nums r.0 r.1 c)

  unfoldable pub hold_cell : Parser CellDecl
  hold_cell = do
    word keyword.Hold
    sign symbol.OpenParen
    ps ← parts
    sign symbol.CloseParen
    pure (cell.Hold ps)

  unfoldable pub label_cell : Parser CellDecl
  label_cell = do
    of ← name
    sign symbol.Assign
    first ← name
    pure (cell.Enum of first)

  -- cell = "int" range "=" num ["clamp"] | "nums" range ["clamp"] | "words"
  --      | "hold" "(" kind "=" literal {"," kind "=" literal} ")" | NAME "=" NAME
  unfoldable pub cell_decl : Parser CellDecl
  cell_decl =
      choose (sees_word keyword.Int) int_cell
      (choose (sees_word keyword.Nums) nums_cell
      (choose (sees_word keyword.Words) (bump >> pure cell.Words)
      (choose (sees_word keyword.Hold) hold_cell
      label_cell)))

  -- state = "state" NAME ":" cell ";"
  unfoldable pub state : Parser StateDecl
  state = do
    word keyword.State
    n ← name
    sign symbol.Colon
    c ← cell_decl
    sign symbol.Semicolon
    pure (record { name = n; cell = c })

  -- param {"," param}
  unfoldable pub params : Parser (List Param)
  params = do
    p ← param
    separated limit.Parameters sees_name param (most limit.Parameters - 1) (p ∷ [])

  -- test = "test" NAME "(" param {"," param} ")" "=" expr ";"
  unfoldable pub test_decl : Parser TestTree
  test_decl = do
    word keyword.Test
    n ← name
    sign symbol.OpenParen
    ps ← params
    sign symbol.CloseParen
    sign symbol.Assign
    e ← expression most (most limit.Depth)
    sign symbol.Semicolon
    pure (record { name = n; params = ps; body = e })

  -- column = NAME "=" expr ";"
  unfoldable pub column : Parser ColumnTree
  column = do
    n ← name
    sign symbol.Assign
    e ← expression most (most limit.Depth)
    sign symbol.Semicolon
    pure (record { name = n; value = e })
