-- Where a text is refused.
use Rattle.std.specs.Prelude.{◌≡◌, ℕ, suc, ◌<◌, ◌≤◌, List, [], ◌∷◌, ◌++◌, length, Result, Ok, Err}
use Rattle.sym_base.specs.declared.tree.script.Script.{Script}
use Rattle.sym_base.specs.Trees.{ScriptTree}
use Rattle.sym_lex.specs.declared.token.Token.{Token}
use Rattle.sym_lex.specs.Rules.{Reads}
use Rattle.sym_lex.specs.Terminals.{terminal}
use Rattle.sym_parse.specs.declared.error.LimitKind.{LimitKind}
use Rattle.sym_parse.specs.declared.error.LimitKind.TheVariants as limit
use Rattle.sym_parse.specs.declared.error.ParseErr.{ParseErr}
use Rattle.sym_parse.specs.declared.error.ParseErr.TheVariants as answer
use Rattle.sym_parse.specs.Beginnings.{Begins, trimmed}
use Rattle.sym_parse.specs.Lexemes.{Lexeme, lexemes_of}
use Rattle.sym_parse.specs.Limits.{most, rank}
use Rattle.sym_parse.specs.Syntax.Scripts.{IsScript}
use Rattle.sym_parse.specs.Sentences.{IsSentence, BeginNoSentence}

-- Some lexemes after these make them a script's, by some limits.
pub record CanGoOn (front : List Lexeme) : Type 0 where
  pub rest : List Lexeme
  pub sentence : IsSentence (front ++ rest)

-- ---- within limits

-- Some lexemes after these make them a script's, by such limits.
pub record BeginBy (Such : (LimitKind → ℕ) → Type 0) (front : List Lexeme) : Type 0 where
  pub limits : LimitKind → ℕ
  pub such : Such limits
  pub rest : List Lexeme
  pub tree : ScriptTree
  pub script : IsScript limits (front ++ rest) tree

-- The limit of this kind is kept, whatever the others are.
abbrev pub Keep : LimitKind → (LimitKind → ℕ) → Type 0
Keep which limits = limits which ≤ most which

-- Each limit is kept.
abbrev pub KeepAll : (LimitKind → ℕ) → Type 0
KeepAll limits = (k : LimitKind) → Keep k limits

-- One more of this kind may stand. The limits of the kinds before it are kept, whatever those of
-- the kinds after it are.
pub record AddOne (which : LimitKind) (limits : LimitKind → ℕ) : Type 0 where
  pub one : limits which ≤ suc (most which)
  pub before : (k : LimitKind) → rank k < rank which → Keep k limits

-- ---- the places

-- The first place of the text at which no sentence goes on. The tokens before the one there begin
-- a sentence, and with it they begin none; or the tokens of the whole text, which ends there,
-- begin a sentence and are none.
pub data IsUnexpected (text : List ℕ) (at : ℕ) : Type 0 where
  token : (front rest : List Token) (t : Token) → Reads 0 text (Ok (front ++ t ∷ rest)) →
      t.at ≡ at → CanGoOn (lexemes_of text front) →
      BeginNoSentence (lexemes_of text (front ++ t ∷ [])) → IsUnexpected text at
  end : (tokens : List Token) → Reads 0 text (Ok tokens) → length text ≡ at →
      CanGoOn (lexemes_of text tokens) → (IsSentence (lexemes_of text tokens) → ⊥) →
      IsUnexpected text at

-- The token at this place of the text is the first to pass a limit, and of the limits that it
-- passes that of this kind stands first. It begins a thing of the kind. With it the tokens before
-- it begin no script within the limit, but with one more they begin one. Without the commas,
-- operators and opening signs at their end, the tokens before it begin a script within all limits,
-- and with them one within that of the depth.
pub record IsPassed (text : List ℕ) (at : ℕ) (which : LimitKind) : Type 0 where
  pub front : List Token
  pub token : Token
  pub rest : List Token
  pub lexed : Reads 0 text (Ok (front ++ token ∷ rest))
  pub stands : token.at ≡ at
  pub begins : Begins which (terminal text token)
  pub none : BeginBy (Keep which) (lexemes_of text (front ++ token ∷ [])) → ⊥
  pub more : BeginBy (AddOne which) (lexemes_of text (front ++ token ∷ []))
  pub kept : BeginBy KeepAll (trimmed (lexemes_of text front))
  pub deep : BeginBy (Keep limit.Depth) (lexemes_of text front)

-- What is answered on a text of which this place is unexpected: that place, a limit that is passed,
-- or `NoMemory`.
abbrev pub IsRefusedAt : ℕ → Result Script ParseErr → Type 0
IsRefusedAt at (Ok _) = ⊥
IsRefusedAt at (Err (answer.Lex fault)) = ⊥
IsRefusedAt at (Err (answer.Expected place)) = place ≡ at
IsRefusedAt at (Err (answer.Limit place which)) = Unit {0}
IsRefusedAt at (Err answer.NoMemory) = Unit {0}
