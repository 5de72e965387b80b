-- The lexical rules as a relation: a text reads as its tokens, or as the first fault in it.
-- The rules are this project's profile.
use Rattle.std.specs.Prelude.{◌≡◌, ◌≢◌, ℕ, ◌+◌, ◌≤◌, ◌<◌, pos, Bool, true, false, nat_eq, List, [], ◌∷◌, ◌++◌, length, Result, Ok, Err}
use Rattle.std.specs.List.{list_all, starts_with}
use Rattle.std.specs.Str.{IsUtf8}
use Rattle.std.specs.Str.Parse.{digits_value}
use Rattle.std.specs.Char.{is_ascii_digit}
use Rattle.sym_base.specs.Limits.{max_name_bytes, num_max}
use Rattle.sym_base.specs.Names.{is_name_part, is_name_start, starts_name}
use Rattle.sym_lex.specs.declared.error.LexFault.{LexFault}
use Rattle.sym_lex.specs.declared.error.LexFault.TheVariants.{BadByte, BadNumber, LongName, BadText}
use Rattle.sym_lex.specs.declared.token.Token.{Token}
use Rattle.sym_lex.specs.declared.token.TokenKind.{TokenKind}
use Rattle.sym_lex.specs.declared.token.TokenKind.TheVariants as kind
use Rattle.sym_lex.specs.declared.keyword.Keyword.{Keyword}
use Rattle.sym_lex.specs.declared.symbol.Symbol.{Symbol}
use Rattle.sym_lex.specs.Keywords.{keyword_text}
use Rattle.sym_lex.specs.Letters.{begins, is_blank, is_escaped, is_hash, is_in_line, is_quote}
use Rattle.sym_lex.specs.Quoting.{escaped, quoted}
use Rattle.sym_lex.specs.Symbols.{symbol_text}

-- The bytes of a kind that stand before the first one of another kind, or before the end.
pub record IsRun (p : ℕ → Bool) (run rest : List ℕ) : Type 0 where
  pub each : list_all p run ≡ true
  pub ends : begins p rest ≡ false

-- A letter or `_`, and all letters, digits and `_` after it.
pub record IsNameRun (word rest : List ℕ) : Type 0 where
  pub starts : starts_name word ≡ true
  pub run : IsRun is_name_part word rest

-- One digit or more: all that stand there.
pub record IsNumeral (digits rest : List ℕ) : Type 0 where
  pub starts : begins is_ascii_digit digits ≡ true
  pub run : IsRun is_ascii_digit digits rest

-- A symbol, where no longer one begins at its place.
pub record IsSymbol (s : Symbol) (bytes rest : List ℕ) : Type 0 where
  pub spelled : bytes ≡ symbol_text s
  pub longest : (other : Symbol) → starts_with nat_eq (bytes ++ rest) (symbol_text other) ≡ true
      → length (symbol_text other) ≤ length bytes

-- The token of these bytes, before the bytes that stand after it. A name that is a keyword is that
-- keyword. A text is decoded: its token holds the bytes that are written between the quotes.
pub data IsToken (bytes rest : List ℕ) : TokenKind → Type 0 where
  name : IsNameRun bytes rest → length bytes ≤ max_name_bytes
      → ((k : Keyword) → bytes ≢ keyword_text k) → IsToken bytes rest kind.Name
  word : (k : Keyword) → IsNameRun bytes rest → bytes ≡ keyword_text k
      → IsToken bytes rest (kind.Word k)
  number : IsNumeral bytes rest → digits_value 10 bytes ≤ num_max → starts_name rest ≡ false
      → IsToken bytes rest (kind.Number (pos (digits_value 10 bytes)))
  string : (text : List ℕ) → bytes ≡ quoted text → list_all is_in_line text ≡ true
      → IsUtf8 text → IsToken bytes rest (kind.Str text)
  sign : (s : Symbol) → IsSymbol s bytes rest → IsToken bytes rest (kind.Sign s)

-- A first byte that belongs to no blank, comment, name, number, text or symbol.
pub record BeginsNothing (b : ℕ) (rest : List ℕ) : Type 0 where
  pub no_blank : is_blank b ≡ false
  pub no_comment : is_hash b ≡ false
  pub no_name : is_name_start b ≡ false
  pub no_number : is_ascii_digit b ≡ false
  pub no_text : is_quote b ≡ false
  pub no_symbol : (s : Symbol) → starts_with nat_eq (b ∷ rest) (symbol_text s) ≡ false

-- The fault with which a text at this place begins. Each fault is named by the place of the first
-- byte of what can't be read.
pub data IsFault (at : ℕ) : List ℕ → LexFault → Type 0 where
  bad_byte : (b : ℕ) (rest : List ℕ) → BeginsNothing b rest → IsFault at (b ∷ rest) (BadByte at)
  -- a number that is too large
  large_number : (digits rest : List ℕ) → IsNumeral digits rest
      → num_max < digits_value 10 digits → IsFault at (digits ++ rest) (BadNumber at)
  -- a number that a letter or `_` follows at once
  joined_number : (digits rest : List ℕ) → IsNumeral digits rest → starts_name rest ≡ true
      → IsFault at (digits ++ rest) (BadNumber at)
  long_name : (word rest : List ℕ) → IsNameRun word rest → max_name_bytes < length word
      → IsFault at (word ++ rest) (LongName at)
  -- no closing quote before LF or the end
  open_text : (text rest : List ℕ) → list_all is_in_line text ≡ true
      → begins is_in_line rest ≡ false → IsFault at (34 ∷ (escaped text ++ rest)) (BadText at)
  -- a `\` before anything but `"` and `\`
  other_escape : (text rest : List ℕ) → list_all is_in_line text ≡ true
      → begins is_escaped rest ≡ false
      → IsFault at (34 ∷ (escaped text ++ 92 ∷ rest)) (BadText at)
  not_utf8 : (text rest : List ℕ) → list_all is_in_line text ≡ true → ¬ (IsUtf8 text)
      → IsFault at (quoted text ++ rest) (BadText at)

-- The tokens of a text, or the first fault in it.
abbrev pub LexResult : Type 0
LexResult = Result (List Token) LexFault

-- The token before those that follow it, unless a fault follows.
abbrev pub with_token : Token → LexResult → LexResult
with_token token (Ok tokens) = Ok (token ∷ tokens)
with_token token (Err fault) = Err fault

-- The token of these bytes, which stand at this place.
abbrev pub placed : TokenKind → ℕ → List ℕ → Token
placed k at bytes = record { kind = k; at = at; end = at + length bytes }

-- What a text that stands at this place reads as: blanks, comments and tokens one after another, up
-- to the end or to the first fault.
pub data Reads : ℕ → List ℕ → LexResult → Type 0 where
  ended : (at : ℕ) → Reads at [] (Ok [])
  blank : (at b : ℕ) (rest : List ℕ) (r : LexResult) → is_blank b ≡ true
      → Reads (at + 1) rest r → Reads at (b ∷ rest) r
  comment : (at b : ℕ) (body rest : List ℕ) (r : LexResult) → is_hash b ≡ true
      → IsRun is_in_line body rest → Reads (at + 1 + length body) rest r
      → Reads at (b ∷ (body ++ rest)) r
  token : (at : ℕ) (bytes rest : List ℕ) (k : TokenKind) (r : LexResult) → IsToken bytes rest k
      → Reads (at + length bytes) rest r
      → Reads at (bytes ++ rest) (with_token (placed k at bytes) r)
  fault : (at : ℕ) (text : List ℕ) (f : LexFault) → IsFault at text f → Reads at text (Err f)
