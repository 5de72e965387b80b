-- Bytes that read as certain tokens wherever they stand, as far as what follows them allows it. A
-- text that is put together of such bytes reads as all of these tokens, one after another.
use Rattle.std.specs.Prelude.{◌≡◌, ℕ, ◌+◌, List, ◌++◌, length, Ok, Err}
use Rattle.sym_lex.specs.declared.token.Token.{Token}
use Rattle.sym_lex.specs.Rules.{LexResult, Reads}
use Rattle.sym_lex.specs.Terminals.{Terminal, terminals}

-- Tokens before what a text reads as.
abbrev pub with_tokens : List Token → LexResult → LexResult
with_tokens before (Ok tokens) = Ok (before ++ tokens)
with_tokens before (Err fault) = Err fault

-- Between these other bytes, the bytes read as tokens that are these terminals.
pub record SpellsBetween (before bytes rest : List ℕ) (ts : List Terminal) (r : LexResult)
    : Type 0 where
  pub tokens : List Token
  pub same : terminals (before ++ (bytes ++ rest)) tokens ≡ ts
  pub reads : Reads (length before) (bytes ++ rest) (with_tokens tokens r)

-- The bytes spell these terminals wherever bytes of this kind follow them.
abbrev pub Spells : (List ℕ → Type 0) → List ℕ → List Terminal → Type 0
Spells Follows bytes ts =
    (before rest : List ℕ) (r : LexResult) → Follows rest
    → Reads (length before + length bytes) rest r → SpellsBetween before bytes rest ts r
