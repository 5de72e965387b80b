-- Statements. An `if` opens a level: its condition and its blocks stand one level deeper, and so
-- does an `else if`, which is an `else` block that holds just that `if`.
use Rattle.std.specs.Prelude.{ℕ, zero, suc, List, [], ◌∷◌, ◌++◌}
use Rattle.sym_base.specs.declared.tree.name.Name.{Name}
use Rattle.sym_base.specs.Trees.{ExprTree, ExprsTree, StmtTree, StmtsTree, Let, Set, Push, Keep, KeepFrom, If, Done, Then}
use Rattle.sym_lex.specs.declared.keyword.Keyword.TheVariants as keyword
use Rattle.sym_lex.specs.declared.symbol.Symbol.TheVariants as symbol
use Rattle.sym_parse.specs.declared.error.LimitKind.{LimitKind}
use Rattle.sym_parse.specs.Lexemes.{Lexeme, IsKeyword, IsSign, IsName}
use Rattle.sym_parse.specs.Syntax.Expressions.{IsExprWithin, IsValues}

-- With these numbers, so many levels free, and what an `if` statement is here.
module _ (most : LimitKind → ℕ) (room : ℕ) (IsIfHere : List Lexeme → StmtTree → Type 0) where
  -- stmt = "let" NAME "=" expr ";" | NAME "=" expr ";" | "push" NAME expr ";"
  --      | "keep" NAME ( "(" expr {"," expr} ")" | "from" NAME ) ";" | if
  pub data IsStatement : List Lexeme → StmtTree → Type 0 where
    binding : {n : Name} {xs : List Lexeme} {e : ExprTree} (w l equals end : Lexeme) →
        IsKeyword keyword.Let w → IsName n l → IsSign symbol.Assign equals →
        IsExprWithin most room xs e → IsSign symbol.Semicolon end →
        IsStatement (w ∷ l ∷ equals ∷ (xs ++ end ∷ [])) (Let n e)
    assignment : {n : Name} {xs : List Lexeme} {e : ExprTree} (l equals end : Lexeme) →
        IsName n l → IsSign symbol.Assign equals → IsExprWithin most room xs e →
        IsSign symbol.Semicolon end →
        IsStatement (l ∷ equals ∷ (xs ++ end ∷ [])) (Set n e)
    push : {n : Name} {xs : List Lexeme} {e : ExprTree} (w l end : Lexeme) →
        IsKeyword keyword.Push w → IsName n l → IsExprWithin most room xs e →
        IsSign symbol.Semicolon end →
        IsStatement (w ∷ l ∷ (xs ++ end ∷ [])) (Push n e)
    keep : {n : Name} {xs : List Lexeme} {es : ExprsTree} (w l begin close end : Lexeme) →
        IsKeyword keyword.Keep w → IsName n l → IsSign symbol.OpenParen begin →
        IsValues (IsExprWithin most room) xs es →
        IsSign symbol.CloseParen close → IsSign symbol.Semicolon end →
        IsStatement (w ∷ l ∷ begin ∷ (xs ++ close ∷ end ∷ [])) (Keep n es)
    keep_from : {n source : Name} (w l from m end : Lexeme) →
        IsKeyword keyword.Keep w → IsName n l → IsKeyword keyword.From from → IsName source m →
        IsSign symbol.Semicolon end →
        IsStatement (w ∷ l ∷ from ∷ m ∷ end ∷ []) (KeepFrom n source)
    branch : {xs : List Lexeme} {s : StmtTree} → IsIfHere xs s → IsStatement xs s

  -- {stmt}
  pub data AreStatements : List Lexeme → StmtsTree → Type 0 where
    none : AreStatements [] Done
    more : {xs ys : List Lexeme} {s : StmtTree} {rest : StmtsTree} → IsStatement xs s →
        AreStatements ys rest → AreStatements (xs ++ ys) (Then s rest)

  -- block = "{" {stmt} "}"
  pub data IsBlock : List Lexeme → StmtsTree → Type 0 where
    block : {xs : List Lexeme} {ss : StmtsTree} (begin end : Lexeme) →
        IsSign symbol.OpenBrace begin → AreStatements xs ss → IsSign symbol.CloseBrace end →
        IsBlock (begin ∷ (xs ++ end ∷ [])) ss

  -- ["else" (block | if)]
  pub data IsElse : List Lexeme → StmtsTree → Type 0 where
    none : IsElse [] Done
    block : {xs : List Lexeme} {ss : StmtsTree} (w : Lexeme) → IsKeyword keyword.Else w →
        IsBlock xs ss → IsElse (w ∷ xs) ss
    else_if : {xs : List Lexeme} {s : StmtTree} (w : Lexeme) → IsKeyword keyword.Else w →
        IsIfHere xs s → IsElse (w ∷ xs) (Then s Done)

  -- if = "if" expr block ["else" (block | if)], within the level that it opens
  pub data IsIf : List Lexeme → StmtTree → Type 0 where
    branch : {xs ys zs : List Lexeme} {e : ExprTree} {then otherwise : StmtsTree} (w : Lexeme) →
        IsKeyword keyword.If w → IsExprWithin most room xs e → IsBlock ys then →
        IsElse zs otherwise →
        IsIf (w ∷ (xs ++ (ys ++ zs))) (If e then otherwise)

module _ (most : LimitKind → ℕ) where
  -- An `if` statement where so many levels are free.
  unfoldable pub IsIfWithin : ℕ → List Lexeme → StmtTree → Type 0
  IsIfWithin zero ls s = ⊥
  IsIfWithin (suc room) ls s = IsIf most room (IsIfWithin room) ls s

  -- A block where so many levels are free.
  abbrev pub IsBlockWithin : ℕ → List Lexeme → StmtsTree → Type 0
  IsBlockWithin room = IsBlock most room (IsIfWithin room)
