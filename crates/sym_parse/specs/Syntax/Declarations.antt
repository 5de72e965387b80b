-- Declarations, the report's columns, and their parts.
use Rattle.std.specs.Prelude.{ℕ, ◌≤◌, ℤ, neg_ℤ, Bool, true, false, List, [], ◌∷◌, ◌++◌, length, Option, None, Some}
use Rattle.sym_base.specs.declared.tree.name.Name.{Name}
use Rattle.sym_base.specs.declared.tree.declaration.EnumDecl.{EnumDecl}
use Rattle.sym_base.specs.declared.tree.declaration.FieldDecl.{FieldDecl}
use Rattle.sym_base.specs.declared.tree.declaration.KindRef.{KindRef}
use Rattle.sym_base.specs.declared.tree.declaration.KindRef.TheVariants as kind
use Rattle.sym_base.specs.declared.tree.declaration.Literal.{Literal}
use Rattle.sym_base.specs.declared.tree.declaration.Literal.TheVariants as literal
use Rattle.sym_base.specs.declared.tree.declaration.Part.{Part}
use Rattle.sym_base.specs.declared.tree.declaration.CellDecl.{CellDecl}
use Rattle.sym_base.specs.declared.tree.declaration.CellDecl.TheVariants as cell
use Rattle.sym_base.specs.declared.tree.declaration.StateDecl.{StateDecl}
use Rattle.sym_base.specs.declared.tree.declaration.Param.{Param}
use Rattle.sym_base.specs.Trees.{ExprTree, TestTree, ColumnTree}
use Rattle.sym_lex.specs.declared.keyword.Keyword.TheVariants as keyword
use Rattle.sym_lex.specs.declared.symbol.Symbol.TheVariants as symbol
use Rattle.sym_parse.specs.declared.error.LimitKind.{LimitKind}
use Rattle.sym_parse.specs.declared.error.LimitKind.TheVariants as limit
use Rattle.sym_parse.specs.Lexemes.{Lexeme, IsKeyword, IsSign, IsNumeral, IsText, IsName}
use Rattle.sym_parse.specs.Syntax.Expressions.{IsExprWithin}

-- {item}
pub data AreItems {A : Type 0} (Item : List Lexeme → A → Type 0) :
    List Lexeme → List A → Type 0 where
  none : AreItems Item [] []
  more : {xs ys : List Lexeme} {a : A} {rest : List A} → Item xs a → AreItems Item ys rest →
      AreItems Item (xs ++ ys) (a ∷ rest)

-- {"," item}
pub data AreFurther {A : Type 0} (Item : List Lexeme → A → Type 0) :
    List Lexeme → List A → Type 0 where
  none : AreFurther Item [] []
  more : {xs ys : List Lexeme} {a : A} {rest : List A} (comma : Lexeme) →
      IsSign symbol.Comma comma → Item xs a → AreFurther Item ys rest →
      AreFurther Item (comma ∷ (xs ++ ys)) (a ∷ rest)

-- {item}, at most so many
pub data AreAtMost {A : Type 0} (most : ℕ) (Item : List Lexeme → A → Type 0) :
    List Lexeme → List A → Type 0 where
  any : {xs : List Lexeme} {items : List A} → AreItems Item xs items → length items ≤ most →
      AreAtMost most Item xs items

-- item {item}, at most so many
pub data AreSome {A : Type 0} (most : ℕ) (Item : List Lexeme → A → Type 0) :
    List Lexeme → List A → Type 0 where
  some : {xs ys : List Lexeme} {a : A} {rest : List A} →
      Item xs a → AreItems Item ys rest → length (a ∷ rest) ≤ most →
      AreSome most Item (xs ++ ys) (a ∷ rest)

-- item {"," item}, at most so many
pub data AreSeparated {A : Type 0} (most : ℕ) (Item : List Lexeme → A → Type 0) :
    List Lexeme → List A → Type 0 where
  some : {xs ys : List Lexeme} {a : A} {rest : List A} →
      Item xs a → AreFurther Item ys rest → length (a ∷ rest) ≤ most →
      AreSeparated most Item (xs ++ ys) (a ∷ rest)

-- NAME
pub data IsOneName : List Lexeme → Name → Type 0 where
  name : {n : Name} (l : Lexeme) → IsName n l → IsOneName (l ∷ []) n

-- num = ["-"] NUMBER
pub data IsNum : List Lexeme → ℤ → Type 0 where
  plain : {n : ℤ} (l : Lexeme) → IsNumeral n l → IsNum (l ∷ []) n
  minus : {n : ℤ} (sign l : Lexeme) → IsSign symbol.Minus sign → IsNumeral n l →
      IsNum (sign ∷ l ∷ []) (neg_ℤ n)

-- literal = num | TEXT | NAME. The place of a number is that of its first token.
pub data IsLiteral : List Lexeme → Literal → Type 0 where
  num : {xs : List Lexeme} {n : ℤ} (l : Lexeme) → IsNum (l ∷ xs) n →
      IsLiteral (l ∷ xs) (literal.Num n l.at)
  text : {t : List ℕ} (l : Lexeme) → IsText t l → IsLiteral (l ∷ []) (literal.Text t l.at)
  name : {n : Name} (l : Lexeme) → IsName n l → IsLiteral (l ∷ []) (literal.Named n)

-- kind = "num" | "word" | NAME
pub data IsKind : List Lexeme → KindRef → Type 0 where
  num : (l : Lexeme) → IsKeyword keyword.Num l → IsKind (l ∷ []) kind.Num
  word : (l : Lexeme) → IsKeyword keyword.Word l → IsKind (l ∷ []) kind.Word
  name : {n : Name} (l : Lexeme) → IsName n l → IsKind (l ∷ []) (kind.Named n)

-- ["from" TEXT]
pub data IsHeader : List Lexeme → Option (List ℕ) → Type 0 where
  none : IsHeader [] None
  from : {t : List ℕ} (w l : Lexeme) → IsKeyword keyword.From w → IsText t l →
      IsHeader (w ∷ l ∷ []) (Some t)

-- ["else" literal]
pub data IsDefault : List Lexeme → Option Literal → Type 0 where
  none : IsDefault [] None
  given : {xs : List Lexeme} {v : Literal} (w : Lexeme) → IsKeyword keyword.Else w →
      IsLiteral xs v → IsDefault (w ∷ xs) (Some v)

-- field = "field" NAME ["from" TEXT] ":" kind ["else" literal] ";"
pub data IsField : List Lexeme → FieldDecl → Type 0 where
  declared : {n : Name} {hs ks ds : List Lexeme} {header : Option (List ℕ)} {k : KindRef}
      {default : Option Literal} (w l colon end : Lexeme) →
      IsKeyword keyword.Field w → IsName n l → IsHeader hs header → IsSign symbol.Colon colon →
      IsKind ks k → IsDefault ds default → IsSign symbol.Semicolon end →
      IsField (w ∷ l ∷ (hs ++ colon ∷ (ks ++ (ds ++ end ∷ []))))
      (record { name = n; header = header; kind = k; default = default })

-- range = "[" num ".." num "]"
pub data IsRange : List Lexeme → ℤ × ℤ → Type 0 where
  range : {lo hi : ℤ} {xs ys : List Lexeme} (begin dots end : Lexeme) →
      IsSign symbol.OpenBracket begin → IsNum xs lo → IsSign symbol.DotDot dots → IsNum ys hi →
      IsSign symbol.CloseBracket end →
      IsRange (begin ∷ (xs ++ dots ∷ (ys ++ end ∷ []))) (lo, hi)

-- ["clamp"], and whether it is there
pub data IsClamp : List Lexeme → Bool → Type 0 where
  none : IsClamp [] false
  clamp : (w : Lexeme) → IsKeyword keyword.Clamp w → IsClamp (w ∷ []) true

-- kind "=" literal
pub data IsPart : List Lexeme → Part → Type 0 where
  part : {xs ys : List Lexeme} {k : KindRef} {v : Literal} (equals : Lexeme) →
      IsKind xs k → IsSign symbol.Assign equals → IsLiteral ys v →
      IsPart (xs ++ equals ∷ ys) (record { kind = k; first = v })

-- param = NAME ":" kind
pub data IsParam : List Lexeme → Param → Type 0 where
  param : {n : Name} {xs : List Lexeme} {k : KindRef} (l colon : Lexeme) →
      IsName n l → IsSign symbol.Colon colon → IsKind xs k →
      IsParam (l ∷ colon ∷ xs) (record { name = n; kind = k })

-- With these numbers.
module _ (most : LimitKind → ℕ) where
  -- enum = "enum" NAME "{" NAME {"," NAME} "}"
  pub data IsEnum : List Lexeme → EnumDecl → Type 0 where
    declared : {n : Name} {xs : List Lexeme} {labels : List Name} (w l begin end : Lexeme) →
        IsKeyword keyword.Enum w → IsName n l → IsSign symbol.OpenBrace begin →
        AreSeparated (most limit.Labels) IsOneName xs labels → IsSign symbol.CloseBrace end →
        IsEnum (w ∷ l ∷ begin ∷ (xs ++ end ∷ [])) (record { name = n; labels = labels })

  -- group = "group" NAME {"," NAME} ";", or none
  pub data IsGroup : List Lexeme → List Name → Type 0 where
    none : IsGroup [] []
    group : {xs : List Lexeme} {names : List Name} (w end : Lexeme) → IsKeyword keyword.Group w →
        AreSeparated (most limit.GroupFields) IsOneName xs names → IsSign symbol.Semicolon end →
        IsGroup (w ∷ (xs ++ end ∷ [])) names

  -- cell = "int" range "=" num ["clamp"] | "nums" range ["clamp"] | "words"
  --      | "hold" "(" kind "=" literal {"," kind "=" literal} ")" | NAME "=" NAME
  pub data IsCell : List Lexeme → CellDecl → Type 0 where
    int : {xs ys zs : List Lexeme} {r : ℤ × ℤ} {first : ℤ} {clamp : Bool} (w equals : Lexeme) →
        IsKeyword keyword.Int w → IsRange xs r → IsSign symbol.Assign equals → IsNum ys first →
        IsClamp zs clamp →
        IsCell (w ∷ (xs ++ equals ∷ (ys ++ zs))) (cell.Int r.0 r.1 first clamp)
    nums : {xs ys : List Lexeme} {r : ℤ × ℤ} {clamp : Bool} (w : Lexeme) →
        IsKeyword keyword.Nums w → IsRange xs r → IsClamp ys clamp →
        IsCell (w ∷ (xs ++ ys)) (cell.Nums r.0 r.1 clamp)
    words : (w : Lexeme) → IsKeyword keyword.Words w → IsCell (w ∷ []) cell.Words
    hold : {xs : List Lexeme} {parts : List Part} (w begin end : Lexeme) →
        IsKeyword keyword.Hold w → IsSign symbol.OpenParen begin →
        AreSeparated (most limit.Parts) IsPart xs parts → IsSign symbol.CloseParen end →
        IsCell (w ∷ begin ∷ (xs ++ end ∷ [])) (cell.Hold parts)
    label : {of first : Name} (l equals m : Lexeme) →
        IsName of l → IsSign symbol.Assign equals → IsName first m →
        IsCell (l ∷ equals ∷ m ∷ []) (cell.Enum of first)

  -- state = "state" NAME ":" cell ";"
  pub data IsState : List Lexeme → StateDecl → Type 0 where
    declared : {n : Name} {xs : List Lexeme} {c : CellDecl} (w l colon end : Lexeme) →
        IsKeyword keyword.State w → IsName n l → IsSign symbol.Colon colon → IsCell xs c →
        IsSign symbol.Semicolon end →
        IsState (w ∷ l ∷ colon ∷ (xs ++ end ∷ [])) (record { name = n; cell = c })

  -- test = "test" NAME "(" param {"," param} ")" "=" expr ";"
  pub data IsTest : List Lexeme → TestTree → Type 0 where
    declared : {n : Name} {xs ys : List Lexeme} {params : List Param} {body : ExprTree}
        (w l begin close equals end : Lexeme) →
        IsKeyword keyword.Test w → IsName n l → IsSign symbol.OpenParen begin →
        AreSeparated (most limit.Parameters) IsParam xs params → IsSign symbol.CloseParen close →
        IsSign symbol.Assign equals → IsExprWithin most (most limit.Depth) ys body →
        IsSign symbol.Semicolon end →
        IsTest (w ∷ l ∷ begin ∷ (xs ++ close ∷ equals ∷ (ys ++ end ∷ [])))
        (record { name = n; params = params; body = body })

  -- column = NAME "=" expr ";"
  pub data IsColumn : List Lexeme → ColumnTree → Type 0 where
    column : {n : Name} {xs : List Lexeme} {value : ExprTree} (l equals end : Lexeme) →
        IsName n l → IsSign symbol.Assign equals → IsExprWithin most (most limit.Depth) xs value →
        IsSign symbol.Semicolon end →
        IsColumn (l ∷ equals ∷ (xs ++ end ∷ [])) (record { name = n; value = value })
