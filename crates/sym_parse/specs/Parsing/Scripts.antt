-- Whole scripts.
use Rattle.std.specs.Prelude.{ℕ, ◌-◌, List, [], ◌∷◌}
use Rattle.sym_base.specs.declared.tree.declaration.EnumDecl.{EnumDecl}
use Rattle.sym_base.specs.declared.tree.declaration.FieldDecl.{FieldDecl}
use Rattle.sym_base.specs.declared.tree.declaration.StateDecl.{StateDecl}
use Rattle.sym_base.specs.Trees.{TestTree, ColumnTree, ScriptTree}
use Rattle.sym_lex.specs.declared.keyword.Keyword.TheVariants as keyword
use Rattle.sym_lex.specs.declared.symbol.Symbol.TheVariants as symbol
use Rattle.sym_parse.specs.declared.error.LimitKind.{LimitKind}
use Rattle.sym_parse.specs.declared.error.LimitKind.TheVariants as limit
use Rattle.sym_parse.specs.Lexemes.{Lexeme}
use Rattle.sym_parse.specs.Steps.{Input, Parser, ◌>>=◌, ◌>>◌, pure, sees_word, sees_name, word, sign, done, repeated}
use Rattle.sym_parse.specs.Parsing.Statements.{update}
use Rattle.sym_parse.specs.Parsing.Declarations.{enum_decl, field, group, state, test_decl, column}

module _ (most : LimitKind → ℕ) where
  -- {enum}
  unfoldable pub enums : Parser (List EnumDecl)
  enums = repeated limit.Enums (sees_word keyword.Enum) (enum_decl most) (most limit.Enums) []

  -- field {field}
  unfoldable pub fields : Parser (List FieldDecl)
  fields = do
    f ← field
    repeated limit.Fields (sees_word keyword.Field) field (most limit.Fields - 1) (f ∷ [])

  -- state {state}
  unfoldable pub states : Parser (List StateDecl)
  states = do
    s ← state most
    repeated limit.Cells (sees_word keyword.State) (state most) (most limit.Cells - 1) (s ∷ [])

  -- {test}
  unfoldable pub tests : Parser (List TestTree)
  tests = repeated limit.Tests (sees_word keyword.Test) (test_decl most) (most limit.Tests) []

  -- column {column}
  unfoldable pub columns : Parser (List ColumnTree)
  columns = do
    c ← column most
    repeated limit.Columns sees_name (column most) (most limit.Columns - 1) (c ∷ [])

  -- report = "report" "{" column {column} "}"
  unfoldable pub report : Parser (List ColumnTree)
  report = do
    word keyword.Report
    sign symbol.OpenBrace
    cs ← columns
    sign symbol.CloseBrace
    pure cs

  -- script = {enum} field {field} [group] state {state} {test} update report
  unfoldable pub script : Parser ScriptTree
  script = do
    es ← enums
    fs ← fields
    g ← group most
    ss ← states
    ts ← tests
    u ← update most
    cs ← report
    done
    pure (record {
      enums = es;
      fields = fs;
      group = g;
      states = ss;
      tests = ts;
      update = u;
      columns = cs;
    })

-- From the first lexeme on.
abbrev pub start : List Lexeme → Input
start ls = record { rest = ls; statements = 0; operands = 0 }
