-- Expressions. Operators of one line group to the left. What follows a token that opens a level
-- (`(`, `not`, a unary `-`) stands one level deeper.
use Rattle.std.specs.Prelude.{◌≡◌, ℕ, zero, suc, ◌≤◌, ◌==◌, ℤ, if◌then◌else◌, List, [], ◌∷◌, ◌++◌, Option, None, Some}
use Rattle.sym_base.specs.declared.tree.name.Name.{Name as NameRecord}
use Rattle.sym_base.specs.declared.tree.expression.BinOp.{BinOp}
use Rattle.sym_base.specs.declared.tree.expression.BinOp.TheVariants as op
use Rattle.sym_base.specs.Trees.{ExprTree, ExprsTree, Num, Words, Named, Call, Neg, Not, Bin, End, More}
use Rattle.sym_base.specs.Precedence.{op_level, or_level, and_level, relation_level, sum_level, product_level}
use Rattle.sym_base.specs.Sizes.{operand_count}
use Rattle.sym_lex.specs.declared.keyword.Keyword.{Keyword}
use Rattle.sym_lex.specs.declared.keyword.Keyword.TheVariants as keyword
use Rattle.sym_lex.specs.declared.symbol.Symbol.{Symbol}
use Rattle.sym_lex.specs.declared.symbol.Symbol.TheVariants as symbol
use Rattle.sym_parse.specs.declared.error.LimitKind.{LimitKind}
use Rattle.sym_parse.specs.declared.error.LimitKind.TheVariants as limit
use Rattle.sym_parse.specs.Lexemes.{Terminal, Name, Number, Str, Word, Sign, Lexeme, IsKeyword, IsSign, IsNumeral, IsText, IsName}

-- The lines that may stand one level deeper: a whole expression in parentheses or in a call, the
-- operand of `not`, and the operand of a unary `-`.
pub data Line : Type 0 where
  Whole : Line
  Negation : Line
  Signed : Line

-- The operator of two operands that a token is, if it is one.
abbrev pub word_op : Keyword → Option BinOp
word_op keyword.Enum = None
word_op keyword.Field = None
word_op keyword.From = None
word_op keyword.Num = None
word_op keyword.Word = None
word_op keyword.Else = None
word_op keyword.Group = None
word_op keyword.State = None
word_op keyword.Int = None
word_op keyword.Nums = None
word_op keyword.Words = None
word_op keyword.Hold = None
word_op keyword.Test = None
word_op keyword.Update = None
word_op keyword.Report = None
word_op keyword.Let = None
word_op keyword.Push = None
word_op keyword.Keep = None
word_op keyword.If = None
word_op keyword.And = Some op.And
word_op keyword.Or = Some op.Or
word_op keyword.Not = None
word_op keyword.Is = Some op.Is
word_op keyword.Clamp = None

abbrev pub sign_op : Symbol → Option BinOp
sign_op symbol.OpenBrace = None
sign_op symbol.CloseBrace = None
sign_op symbol.OpenParen = None
sign_op symbol.CloseParen = None
sign_op symbol.OpenBracket = None
sign_op symbol.CloseBracket = None
sign_op symbol.Comma = None
sign_op symbol.Colon = None
sign_op symbol.Semicolon = None
sign_op symbol.Assign = None
sign_op symbol.Equal = Some op.Eq
sign_op symbol.NotEqual = Some op.Ne
sign_op symbol.Less = Some op.Lt
sign_op symbol.LessEqual = Some op.Le
sign_op symbol.Greater = Some op.Gt
sign_op symbol.GreaterEqual = Some op.Ge
sign_op symbol.Plus = Some op.Add
sign_op symbol.Minus = Some op.Sub
sign_op symbol.Star = Some op.Mul
sign_op symbol.Slash = Some op.Div
sign_op symbol.Percent = Some op.Rem
sign_op symbol.DotDot = None

abbrev pub op_of : Terminal → Option BinOp
op_of (Name text) = None
op_of (Number n) = None
op_of (Str text) = None
op_of (Word k) = word_op k
op_of (Sign s) = sign_op s

-- The operator, if it binds as tightly as this.
abbrev pub of_level : ℕ → Option BinOp → Option BinOp
of_level level None = None
of_level level (Some b) = if op_level b == level then Some b else None

-- The operators of each line.
abbrev pub or_op : Terminal → Option BinOp
or_op t = of_level or_level (op_of t)

abbrev pub and_op : Terminal → Option BinOp
and_op t = of_level and_level (op_of t)

abbrev pub compare_op : Terminal → Option BinOp
compare_op t = of_level relation_level (op_of t)

abbrev pub sum_op : Terminal → Option BinOp
sum_op t = of_level sum_level (op_of t)

abbrev pub product_op : Terminal → Option BinOp
product_op t = of_level product_level (op_of t)

-- item {operator item}
pub data IsGrouped (ops : Terminal → Option BinOp) (Item : List Lexeme → ExprTree → Type 0) :
    List Lexeme → ExprTree → Type 0 where
  one : {xs : List Lexeme} {e : ExprTree} → Item xs e → IsGrouped ops Item xs e
  more : {xs ys : List Lexeme} {left right : ExprTree} (b : BinOp) (l : Lexeme) →
      IsGrouped ops Item xs left → ops l.terminal ≡ Some b → Item ys right →
      IsGrouped ops Item (xs ++ l ∷ ys) (Bin b left right l.at)

-- expression {"," expression}
pub data IsValues (Value : List Lexeme → ExprTree → Type 0) : List Lexeme → ExprsTree → Type 0 where
  one : {xs : List Lexeme} {e : ExprTree} → Value xs e → IsValues Value xs (More e End)
  more : {xs ys : List Lexeme} {e : ExprTree} {rest : ExprsTree} (comma : Lexeme) →
      Value xs e → IsSign symbol.Comma comma → IsValues Value ys rest →
      IsValues Value (xs ++ comma ∷ ys) (More e rest)

module _ (Deeper : Line → List Lexeme → ExprTree → Type 0) where
  -- primary = NUMBER | TEXT | NAME ["(" expr {"," expr} ")"] | "(" expr ")"
  pub data IsPrimary : List Lexeme → ExprTree → Type 0 where
    number : {n : ℤ} (l : Lexeme) → IsNumeral n l → IsPrimary (l ∷ []) (Num n l.at)
    text : {t : List ℕ} (l : Lexeme) → IsText t l → IsPrimary (l ∷ []) (Words t l.at)
    name : {n : NameRecord} (l : Lexeme) → IsName n l → IsPrimary (l ∷ []) (Named n)
    call : {n : NameRecord} {xs : List Lexeme} {es : ExprsTree} (l begin end : Lexeme) →
        IsName n l → IsSign symbol.OpenParen begin → IsValues (Deeper Whole) xs es →
        IsSign symbol.CloseParen end →
        IsPrimary (l ∷ begin ∷ (xs ++ end ∷ [])) (Call n es)
    parens : {xs : List Lexeme} {e : ExprTree} (begin end : Lexeme) →
        IsSign symbol.OpenParen begin → Deeper Whole xs e → IsSign symbol.CloseParen end →
        IsPrimary (begin ∷ (xs ++ end ∷ [])) e

  -- unary = "-" unary | primary
  pub data IsUnary : List Lexeme → ExprTree → Type 0 where
    minus : {xs : List Lexeme} {e : ExprTree} (l : Lexeme) → IsSign symbol.Minus l →
        Deeper Signed xs e → IsUnary (l ∷ xs) (Neg e l.at)
    plain : {xs : List Lexeme} {e : ExprTree} → IsPrimary xs e → IsUnary xs e

  -- prod = unary {("*" | "/" | "%") unary}
  abbrev pub IsProduct : List Lexeme → ExprTree → Type 0
  IsProduct = IsGrouped product_op IsUnary

  -- sum = prod {("+" | "-") prod}
  abbrev pub IsSum : List Lexeme → ExprTree → Type 0
  IsSum = IsGrouped sum_op IsProduct

  -- rel = sum [("==" | "!=" | "<" | "<=" | ">" | ">=" | "is") sum]
  pub data IsRelation : List Lexeme → ExprTree → Type 0 where
    alone : {xs : List Lexeme} {e : ExprTree} → IsSum xs e → IsRelation xs e
    compared : {xs ys : List Lexeme} {left right : ExprTree} (b : BinOp) (l : Lexeme) →
        IsSum xs left → compare_op l.terminal ≡ Some b → IsSum ys right →
        IsRelation (xs ++ l ∷ ys) (Bin b left right l.at)

  -- neg = "not" neg | rel
  pub data IsNegation : List Lexeme → ExprTree → Type 0 where
    not : {xs : List Lexeme} {e : ExprTree} (l : Lexeme) → IsKeyword keyword.Not l →
        Deeper Negation xs e → IsNegation (l ∷ xs) (Not e l.at)
    plain : {xs : List Lexeme} {e : ExprTree} → IsRelation xs e → IsNegation xs e

  -- conj = neg {"and" neg}
  abbrev pub IsConjunction : List Lexeme → ExprTree → Type 0
  IsConjunction = IsGrouped and_op IsNegation

  -- expr = conj {"or" conj}
  abbrev pub IsExpression : List Lexeme → ExprTree → Type 0
  IsExpression = IsGrouped or_op IsConjunction

  abbrev pub IsLine : Line → List Lexeme → ExprTree → Type 0
  IsLine Whole = IsExpression
  IsLine Negation = IsNegation
  IsLine Signed = IsUnary

-- The lines where fewer than so many levels are open at once.
unfoldable pub Within : ℕ → Line → List Lexeme → ExprTree → Type 0
Within zero x ls e = ⊥
Within (suc room) x ls e = IsLine (Within room) x ls e

-- A whole expression in which at most so many levels are open at once, and whose operands keep
-- their number.
pub record IsExprWithin (most : LimitKind → ℕ) (room : ℕ) (ls : List Lexeme) (e : ExprTree) :
    Type 0 where
  pub whole : Within (suc room) Whole ls e
  pub few : operand_count e ≤ most limit.Operands
