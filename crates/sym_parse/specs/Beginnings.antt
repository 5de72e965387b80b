-- Which tokens begin a thing that is counted, and which ones leave something open.
use Rattle.std.specs.Prelude.{ℕ, ℤ, Bool, ◌||◌, if◌then◌else◌, List, [], ◌∷◌, Some}
use Rattle.sym_lex.specs.declared.keyword.Keyword.TheVariants as keyword
use Rattle.sym_lex.specs.declared.symbol.Symbol.TheVariants as symbol
use Rattle.sym_parse.specs.declared.error.LimitKind.{LimitKind}
use Rattle.sym_parse.specs.declared.error.LimitKind.TheVariants as limit
use Rattle.sym_parse.specs.Lexemes.{Terminal, Name, Number, Str, Word, Sign, Lexeme}
use Rattle.sym_parse.specs.Steps.{word_of, sign_of, is_this_word, is_this_sign, is_there}
use Rattle.sym_parse.specs.Syntax.Expressions.{op_of}

-- The token begins a thing of this kind: it is the first of one.
pub data Begins : LimitKind → Terminal → Type 0 where
  enum : Begins limit.Enums (Word keyword.Enum)
  label : (text : List ℕ) → Begins limit.Labels (Name text)
  field : Begins limit.Fields (Word keyword.Field)
  cell : Begins limit.Cells (Word keyword.State)
  test : Begins limit.Tests (Word keyword.Test)
  parameter : (text : List ℕ) → Begins limit.Parameters (Name text)
  num_part : Begins limit.Parts (Word keyword.Num)
  word_part : Begins limit.Parts (Word keyword.Word)
  label_part : (text : List ℕ) → Begins limit.Parts (Name text)
  binding : Begins limit.Statements (Word keyword.Let)
  push : Begins limit.Statements (Word keyword.Push)
  keep : Begins limit.Statements (Word keyword.Keep)
  branch : Begins limit.Statements (Word keyword.If)
  assignment : (text : List ℕ) → Begins limit.Statements (Name text)
  if_level : Begins limit.Depth (Word keyword.If)
  not_level : Begins limit.Depth (Word keyword.Not)
  minus_level : Begins limit.Depth (Sign symbol.Minus)
  paren_level : Begins limit.Depth (Sign symbol.OpenParen)
  number : (n : ℤ) → Begins limit.Operands (Number n)
  text : (t : List ℕ) → Begins limit.Operands (Str t)
  name : (text : List ℕ) → Begins limit.Operands (Name text)
  column : (text : List ℕ) → Begins limit.Columns (Name text)
  group_field : (text : List ℕ) → Begins limit.GroupFields (Name text)

abbrev pub is_comma : Terminal → Bool
is_comma t = is_this_sign symbol.Comma (sign_of (Some t))

-- A comma, an operator, or a sign that opens a level of an expression.
abbrev pub is_opening : Terminal → Bool
is_opening t =
    is_comma t
    || (is_there (op_of t)
    || (is_this_sign symbol.OpenParen (sign_of (Some t))
    || is_this_word keyword.Not (word_of (Some t))))

-- The lexemes without the commas, operators and opening signs at their end.
abbrev pub before_trimmed : Lexeme → List Lexeme → List Lexeme
before_trimmed l [] = if is_opening l.terminal then [] else l ∷ []
before_trimmed l (next ∷ rest) = l ∷ next ∷ rest

unfoldable pub trimmed : List Lexeme → List Lexeme
trimmed [] = []
trimmed (l ∷ rest) = before_trimmed l (trimmed rest)
