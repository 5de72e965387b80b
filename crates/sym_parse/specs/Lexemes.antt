-- Tokens where they stand: what a token is, with its place.
use Rattle.std.specs.Prelude.{◌≡◌, ℕ, ℤ, List, map}
use Rattle.sym_base.specs.declared.tree.name.Name.{Name as NameRecord}
use Rattle.sym_lex.specs.declared.token.Token.{Token}
use Rattle.sym_lex.specs.declared.keyword.Keyword.{Keyword}
use Rattle.sym_lex.specs.declared.symbol.Symbol.{Symbol}
pub use Rattle.sym_lex.specs.Terminals.{Terminal, Name, Number, Str, Word, Sign, are_sound}
use Rattle.sym_lex.specs.Terminals.{terminal}

-- A token and its place, which counts bytes from 0.
pub record Lexeme : Type 0 where
  pub terminal : Terminal
  pub at : ℕ

abbrev pub lexeme_of : List ℕ → Token → Lexeme
lexeme_of source token = record { terminal = terminal source token; at = token.at }

abbrev pub lexemes_of : List ℕ → List Token → List Lexeme
lexemes_of source tokens = map (lexeme_of source) tokens

-- The lexeme is this keyword, this symbol, this number or this text.
abbrev pub IsKeyword : Keyword → Lexeme → Type 0
IsKeyword k l = l.terminal ≡ Word k

abbrev pub IsSign : Symbol → Lexeme → Type 0
IsSign s l = l.terminal ≡ Sign s

abbrev pub IsNumeral : ℤ → Lexeme → Type 0
IsNumeral n l = l.terminal ≡ Number n

abbrev pub IsText : List ℕ → Lexeme → Type 0
IsText text l = l.terminal ≡ Str text

-- A name of the tree has the text and the place of its lexeme.
pub record IsName (name : NameRecord) (l : Lexeme) : Type 0 where
  pub text : l.terminal ≡ Name name.text
  pub place : l.at ≡ name.at
