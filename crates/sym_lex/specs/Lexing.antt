-- Finding the tokens of a text, or its first fault, byte by byte.
use Rattle.std.specs.Prelude.{◌≡◌, ℕ, zero, suc, ◌+◌, ◌-◌, ℤ, pos, Bool, true, false, not, if◌then◌else◌, ◌&&◌, nat_le, List, [], ◌∷◌, length, drop, Option, Some, None, option_map, Result, Ok, Err}
use Rattle.std.specs.List.{prefix_len, take_while}
use Rattle.std.specs.Str.{is_utf8}
use Rattle.std.specs.Str.Parse.{digits_value}
use Rattle.std.specs.Char.{is_ascii_digit}
use Rattle.sym_base.specs.Limits.{max_name_bytes, num_max}
use Rattle.sym_base.specs.Names.{is_name_part, is_name_start, starts_name}
use Rattle.sym_lex.specs.declared.error.LexErr.{LexErr}
use Rattle.sym_lex.specs.declared.error.LexErr.TheVariants.{Fault, NoMemory}
use Rattle.sym_lex.specs.declared.error.LexFault.{LexFault}
use Rattle.sym_lex.specs.declared.error.LexFault.TheVariants.{BadByte, BadNumber, LongName, BadText}
use Rattle.sym_lex.specs.declared.found.Found.{Found}
use Rattle.sym_lex.specs.declared.token.TokenKind.{TokenKind}
use Rattle.sym_lex.specs.declared.token.TokenKind.TheVariants as kind
use Rattle.sym_lex.specs.declared.keyword.Keyword.{Keyword}
use Rattle.sym_lex.specs.declared.symbol.Symbol.{Symbol}
use Rattle.sym_lex.specs.Keywords.{keyword_of}
use Rattle.sym_lex.specs.Letters.{is_backslash, is_blank, is_escaped, is_hash, is_in_line, is_line_end, is_quote}
use Rattle.sym_lex.specs.Rules.{LexResult, with_token}
use Rattle.sym_lex.specs.Symbols.{symbol_of, symbol_text}

-- The bytes of the blank or of the comment with which a text begins.
abbrev pub gap_size : List ℕ → ℕ
gap_size [] = 0
gap_size (b ∷ rest) =
    if is_blank b then 1 else (if is_hash b then 1 + prefix_len is_in_line rest else 0)

-- A name that is a keyword is that keyword.
abbrev pub name_kind : Option Keyword → TokenKind
name_kind None = kind.Name
name_kind (Some k) = kind.Word k

-- All the name's bytes, unless they are too many.
abbrev pub name_at : ℕ → List ℕ → Result Found LexFault
name_at at text =
    let size = prefix_len is_name_part text in
    let kind = name_kind (keyword_of (take_while is_name_part text)) in
    if nat_le size max_name_bytes then Ok (record { kind = kind; size = size })
    else Err (LongName at)

-- The number that the digits write, unless it is larger than a script's numbers.
abbrev pub number_of : List ℕ → Option ℤ
number_of digits =
    let value = digits_value 10 digits in
    if nat_le value num_max then Some (pos value) else None

-- All the digits, if their value isn't too large and no name follows them at once.
abbrev pub number_at : ℕ → List ℕ → Result Found LexFault
number_at at text =
    let size = prefix_len is_ascii_digit text in
    let value = digits_value 10 (take_while is_ascii_digit text) in
    if nat_le value num_max && not (starts_name (drop size text))
    then Ok (record { kind = kind.Number (pos value); size = size })
    else Err (BadNumber at)

-- What was read after an opening quote: the decoded text, and how many bytes it takes with its
-- closing quote.
pub record Decoded : Type 0 where
  pub text : List ℕ
  pub size : ℕ

-- One byte more before what is read: a byte of the text, or a `\`.
abbrev pub with_byte : ℕ → Decoded → Decoded
with_byte b body = record { text = b ∷ body.text; size = 1 + body.size }

abbrev pub with_backslash : Decoded → Decoded
with_backslash body = record { text = body.text; size = 1 + body.size }

-- The bytes up to the closing quote, decoded, if they lie in a line and have no other escapes. The
-- first argument says whether a `\` stands before them.
unfoldable pub body_of : Bool → List ℕ → Option Decoded
body_of after_backslash [] = None
body_of true (b ∷ rest) =
    if is_escaped b then option_map (with_byte b) (body_of false rest) else None
body_of false (b ∷ rest) =
    if is_quote b then Some (record { text = []; size = 1 })
    else (if is_line_end b then None
    else (if is_backslash b then option_map with_backslash (body_of true rest)
    else option_map (with_byte b) (body_of false rest)))

abbrev pub text_from : ℕ → Option Decoded → Result Found LexFault
text_from at None = Err (BadText at)
text_from at (Some body) =
    if is_utf8 body.text then Ok (record { kind = kind.Str body.text; size = 1 + body.size })
    else Err (BadText at)

abbrev pub symbol_from : ℕ → Option Symbol → Result Found LexFault
symbol_from at None = Err (BadByte at)
symbol_from at (Some s) = Ok (record { kind = kind.Sign s; size = length (symbol_text s) })

abbrev pub symbol_at : ℕ → List ℕ → Result Found LexFault
symbol_at at text = symbol_from at (symbol_of text)

-- The token with which the text at this place begins, or the fault.
abbrev pub found_at : ℕ → List ℕ → Result Found LexFault
found_at at [] = Err (BadByte at)
found_at at (b ∷ rest) =
    if is_name_start b then name_at at (b ∷ rest)
    else (if is_ascii_digit b then number_at at (b ∷ rest)
    else (if is_quote b then text_from at (body_of false rest)
    else symbol_at at (b ∷ rest)))

-- This token at the place, and then those that follow it.
abbrev pub with_found : ℕ → Result Found LexFault → (ℕ → LexResult) → LexResult
with_found at (Ok found) more =
    with_token (record { kind = found.kind; at = at; end = at + found.size }) (more found.size)
with_found at (Err fault) more = Err fault

-- The tokens of the text that stands from the place on, `inside` bytes of which belong to what
-- began before it, or the first fault.
unfoldable pub lexed_from : ℕ → ℕ → List ℕ → LexResult
lexed_from at inside [] = Ok []
lexed_from at (suc inside) (b ∷ rest) = lexed_from (at + 1) inside rest
lexed_from at zero (b ∷ rest) =
    if is_blank b then lexed_from (at + 1) 0 rest
    else (if is_hash b then lexed_from (at + 1) (prefix_len is_in_line rest) rest
    else with_found at (found_at at (b ∷ rest)) (λ size. lexed_from (at + 1) (size - 1) rest))

-- The tokens of a text, or the first fault in it.
abbrev pub lexed : List ℕ → LexResult
lexed text = lexed_from 0 0 text

-- An answer of the lexer gives what was found, as far as there is memory.
abbrev pub Answers : {A B : Type 0} → (A → B) → Result A LexErr → Result B LexFault → Type 0
Answers view (Ok a) r = r ≡ Ok (view a)
Answers view (Err (Fault f)) r = r ≡ Err f
Answers view (Err NoMemory) r = Unit {0}

-- What holds of a fault, where the answer is one.
abbrev pub IfFault : LexErr → (LexFault → Type 0) → Type 0
IfFault (Fault f) P = P f
IfFault NoMemory P = Unit {0}
