-- Tokens as a grammar sees them, and what holds of every token of a text.
use Rattle.std.specs.Prelude.{ℕ, ℤ, ◌-◌, Bool, true, ◌&&◌, nat_lt, nat_le, List, [], ◌∷◌, length, map, take, drop}
use Rattle.std.specs.List.{list_all}
use Rattle.sym_base.specs.Lawful.{is_lawful_text, is_unsigned}
use Rattle.sym_base.specs.Names.{is_name}
use Rattle.sym_lex.specs.declared.token.Token.{Token}
use Rattle.sym_lex.specs.declared.token.TokenKind.{TokenKind}
use Rattle.sym_lex.specs.declared.token.TokenKind.TheVariants as kind
use Rattle.sym_lex.specs.declared.keyword.Keyword.{Keyword}
use Rattle.sym_lex.specs.declared.symbol.Symbol.{Symbol}

-- A token without its place: a name with its text.
pub data Terminal : Type 0 where
  Name : List ℕ → Terminal
  Number : ℤ → Terminal
  Str : List ℕ → Terminal
  Word : Keyword → Terminal
  Sign : Symbol → Terminal

-- The bytes of a token.
abbrev pub token_bytes : List ℕ → Token → List ℕ
token_bytes text token = take (token.end - token.at) (drop token.at text)

abbrev pub terminal_of : List ℕ → TokenKind → Terminal
terminal_of bytes kind.Name = Name bytes
terminal_of bytes (kind.Number n) = Number n
terminal_of bytes (kind.Str text) = Str text
terminal_of bytes (kind.Word k) = Word k
terminal_of bytes (kind.Sign s) = Sign s

abbrev pub terminal : List ℕ → Token → Terminal
terminal text token = terminal_of (token_bytes text token) token.kind

abbrev pub terminals : List ℕ → List Token → List Terminal
terminals text tokens = map (terminal text) tokens

-- What a parser needs to know of a token's bytes and of its value: that names, numbers and texts
-- are those of a lawful script.
abbrev pub suits_kind : List ℕ → TokenKind → Bool
suits_kind bytes kind.Name = is_name bytes
suits_kind bytes (kind.Number n) = is_unsigned n
suits_kind bytes (kind.Str text) = is_lawful_text text
suits_kind bytes (kind.Word k) = true
suits_kind bytes (kind.Sign s) = true

-- The token has a byte or more within the text, and what its kind says holds.
abbrev pub is_sound : List ℕ → Token → Bool
is_sound text token =
    nat_lt token.at token.end && nat_le token.end (length text)
    && suits_kind (token_bytes text token) token.kind

abbrev pub are_sound : List ℕ → List Token → Bool
are_sound text tokens = list_all (is_sound text) tokens

-- No token begins before this place.
abbrev pub starts_past : ℕ → List Token → Bool
starts_past place [] = true
starts_past place (token ∷ rest) = nat_le place token.at

-- Each token begins where the one before it has ended, or after that.
abbrev pub are_in_order : List Token → Bool
are_in_order [] = true
are_in_order (token ∷ rest) = starts_past token.end rest && are_in_order rest
