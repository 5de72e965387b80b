-- Whole scripts.
use Rattle.std.specs.Prelude.{ℕ, ◌≤◌, List, [], ◌∷◌, ◌++◌}
use Rattle.sym_base.specs.declared.tree.name.Name.{Name}
use Rattle.sym_base.specs.declared.tree.declaration.EnumDecl.{EnumDecl}
use Rattle.sym_base.specs.declared.tree.declaration.FieldDecl.{FieldDecl}
use Rattle.sym_base.specs.declared.tree.declaration.StateDecl.{StateDecl}
use Rattle.sym_base.specs.Trees.{StmtsTree, TestTree, ColumnTree, ScriptTree}
use Rattle.sym_base.specs.Sizes.{stmts_count}
use Rattle.sym_lex.specs.declared.keyword.Keyword.TheVariants as keyword
use Rattle.sym_lex.specs.declared.symbol.Symbol.TheVariants as symbol
use Rattle.sym_parse.specs.declared.error.LimitKind.{LimitKind}
use Rattle.sym_parse.specs.declared.error.LimitKind.TheVariants as limit
use Rattle.sym_parse.specs.Lexemes.{Lexeme, IsKeyword, IsSign}
use Rattle.sym_parse.specs.Syntax.Statements.{IsBlockWithin}
use Rattle.sym_parse.specs.Syntax.Declarations.{AreAtMost, AreSome, IsEnum, IsField, IsGroup, IsState, IsTest, IsColumn}

-- With these numbers.
module _ (most : LimitKind → ℕ) where
  -- update = "update" block
  pub data IsUpdate : List Lexeme → StmtsTree → Type 0 where
    update : {xs : List Lexeme} {ss : StmtsTree} (w : Lexeme) →
        IsKeyword keyword.Update w → IsBlockWithin most (most limit.Depth) xs ss →
        stmts_count ss ≤ most limit.Statements →
        IsUpdate (w ∷ xs) ss

  -- report = "report" "{" column {column} "}"
  pub data IsReport : List Lexeme → List ColumnTree → Type 0 where
    report : {xs : List Lexeme} {columns : List ColumnTree} (w begin end : Lexeme) →
        IsKeyword keyword.Report w → IsSign symbol.OpenBrace begin →
        AreSome (most limit.Columns) (IsColumn most) xs columns → IsSign symbol.CloseBrace end →
        IsReport (w ∷ begin ∷ (xs ++ end ∷ [])) columns

  -- script = {enum} field {field} [group] state {state} {test} update report
  pub data IsScript : List Lexeme → ScriptTree → Type 0 where
    script : {es fs gs ss ts us rs : List Lexeme} {enums : List EnumDecl} {fields : List FieldDecl}
        {group : List Name} {states : List StateDecl} {tests : List TestTree} {update : StmtsTree}
        {columns : List ColumnTree} →
        AreAtMost (most limit.Enums) (IsEnum most) es enums →
        AreSome (most limit.Fields) IsField fs fields →
        IsGroup most gs group → AreSome (most limit.Cells) (IsState most) ss states →
        AreAtMost (most limit.Tests) (IsTest most) ts tests → IsUpdate us update →
        IsReport rs columns →
        IsScript (es ++ (fs ++ (gs ++ (ss ++ (ts ++ (us ++ rs))))))
        (record {
          enums = enums;
          fields = fields;
          group = group;
          states = states;
          tests = tests;
          update = update;
          columns = columns;
        })
