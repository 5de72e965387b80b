-- What `parse` answers.
use Rattle.std.specs.Prelude.{◌≡◌, ◌≢◌, ℕ, ◌-◌, List, length, Option, None, Some, slice_get, Result, Ok, Err}
use Rattle.sym_base.specs.declared.tree.script.Script.{Script}
use Rattle.sym_base.specs.Trees.{ScriptTree, script_tree}
use Rattle.sym_lex.specs.declared.token.Token.{Token}
use Rattle.sym_lex.specs.Rules.{LexResult, Reads}
use Rattle.sym_lex.specs.Lexing.{lexed}
use Rattle.sym_parse.specs.declared.error.ParseErr.{ParseErr}
use Rattle.sym_parse.specs.declared.error.ParseErr.TheVariants as answer
use Rattle.sym_parse.specs.declared.stop.Stop.{Stop}
use Rattle.sym_parse.specs.declared.stop.Stop.TheVariants as stop
use Rattle.sym_parse.specs.Lexemes.{lexemes_of}
use Rattle.sym_parse.specs.Limits.{most}
use Rattle.sym_parse.specs.Steps.{Parsed}
use Rattle.sym_parse.specs.Syntax.Scripts.{IsScript}
use Rattle.sym_parse.specs.Parsing.Scripts.{script, start}

-- The text has tokens, and they are this script's, within the limits.
pub record IsScriptOf (text : List ℕ) (tree : ScriptTree) : Type 0 where
  pub tokens : List Token
  pub lexed : Reads 0 text (Ok tokens)
  pub script : IsScript most (lexemes_of text tokens) tree

-- The place of a token, or that of the text's end.
abbrev pub place_or : ℕ → Option Token → ℕ
place_or end None = end
place_or end (Some token) = token.at

-- The place of the token from which so many tokens are left.
abbrev pub place_of_left : ℕ → List Token → ℕ → ℕ
place_of_left end tokens left = place_or end (slice_get tokens (length tokens - left))

-- A stop as an answer on a text of this length.
abbrev pub refusal : ℕ → List Token → Stop → ParseErr
refusal end tokens (stop.Expected left) = answer.Expected (place_of_left end tokens left)
refusal end tokens (stop.Limit left which) = answer.Limit (place_of_left end tokens left) which
refusal end tokens stop.NoMemory = answer.NoMemory

abbrev pub ended : ℕ → List Token → Parsed ScriptTree → Result ScriptTree ParseErr
ended end tokens (Ok read) = Ok read.0
ended end tokens (Err stopped) = Err (refusal end tokens stopped)

abbrev pub by_tokens : List ℕ → LexResult → Result ScriptTree ParseErr
by_tokens text (Ok tokens) =
    ended (length text) tokens (script most (start (lexemes_of text tokens)))
by_tokens text (Err fault) = Err (answer.Lex fault)

-- The script of a text, or why it has none: a lexical fault anywhere in it, or the place at which
-- reading its tokens stops.
unfoldable pub parsed : List ℕ → Result ScriptTree ParseErr
parsed text = by_tokens text (lexed text)

-- The answer is this one, unless it is `NoMemory`.
abbrev pub Gives : Result Script ParseErr → Result ScriptTree ParseErr → Type 0
Gives (Ok script) outcome = outcome ≡ Ok (script_tree script)
Gives (Err err) outcome = err ≢ answer.NoMemory → outcome ≡ Err err
