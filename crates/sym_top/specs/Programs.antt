-- Texts of accepted scripts, and why other texts are refused.
use Rattle.std.specs.Prelude.{ℕ, ◌<◌, ◌≤◌, nat_le, if◌then◌else◌, List, [], length, Result, Ok, Err}
use Rattle.sym_base.specs.declared.limits.TheConstants as limit
use Rattle.sym_base.specs.Trees.{ScriptTree}
use Rattle.sym_lex.specs.declared.error.LexFault.{LexFault}
use Rattle.sym_lex.specs.Rules.{Reads}
use Rattle.sym_parse.specs.declared.error.LimitKind.{LimitKind}
use Rattle.sym_parse.specs.declared.error.ParseErr.{ParseErr}
use Rattle.sym_parse.specs.declared.error.ParseErr.TheVariants as parse_error
use Rattle.sym_parse.specs.Answers.{IsScriptOf, parsed}
use Rattle.sym_parse.specs.Places.{IsUnexpected, IsPassed}
use Rattle.sym_check.specs.Checking.CheckedScripts.{checked_tree, checked_plan}
use Rattle.sym_check.specs.Plan.ScriptPlans.{ScriptPlan}
use Rattle.sym_check.specs.Rules.Scripts.{IsAccepted, BreaksScript, plan_of}
use Rattle.sym_check.specs.declared.checked.accepted.Checked.{Checked}
use Rattle.sym_check.specs.declared.elaborate.error.CheckErr.{CheckErr}
use Rattle.sym_command.specs.declared.place.Place.TheVariants as place
use Rattle.sym_message.specs.declared.refusal.Refusal.{Refusal}
use Rattle.sym_message.specs.declared.refusal.Refusal.TheVariants as refusal
use Rattle.sym_message.specs.Messages.{headers_of}
use Rattle.sym_message.specs.Refusals.{parse_refusal, check_refusal}

-- A script with its plan.
pub record Program : Type 0 where
  pub tree : ScriptTree
  pub plan : ScriptPlan

-- The text isn't too large, it is that of the script, and the script breaks no rule and has this
-- plan.
pub record IsProgram (text : List ℕ) (program : Program) : Type 0 where
  pub small : length text ≤ limit.SCRIPT_MAX
  pub script : IsScriptOf text program.tree
  pub accepted : IsAccepted program.tree program.plan

-- Where a text can't be read as a script: its first lexical fault; else the first token that passes
-- a limit, with the kind of the limit; else, if none does, the first place at which no sentence of
-- the grammar goes on.
pub data IsUnparsed (text : List ℕ) : ParseErr → Type 0 where
  lexical : (fault : LexFault)
      → Reads 0 text (Err fault)
      → IsUnparsed text (parse_error.Lex fault)
  unexpected : (at : ℕ)
      → IsUnexpected text at
      → ((other : ℕ) (which : LimitKind) → IsPassed text other which → ⊥)
      → IsUnparsed text (parse_error.Expected at)
  passed : (at : ℕ) (which : LimitKind)
      → IsPassed text at which
      → IsUnparsed text (parse_error.Limit at which)

-- Why a text is refused as a script: its size; else where it can't be read; else the first rule
-- that its script breaks.
pub data IsNoProgram (text : List ℕ) : Refusal → Type 0 where
  too_large : limit.SCRIPT_MAX < length text
      → IsNoProgram text (refusal.TooLarge place.Script)
  unparsed : (why : ParseErr)
      → length text ≤ limit.SCRIPT_MAX
      → IsUnparsed text why
      → IsNoProgram text (parse_refusal why)
  broken : (tree : ScriptTree) (why : CheckErr)
      → length text ≤ limit.SCRIPT_MAX
      → IsScriptOf text tree
      → BreaksScript tree why
      → IsNoProgram text (check_refusal why)

abbrev pub planned : ScriptTree → Result ScriptPlan CheckErr → Result Program Refusal
planned tree (Ok plan) = Ok (record { tree = tree; plan = plan })
planned tree (Err why) = Err (check_refusal why)

abbrev pub program_of : Result ScriptTree ParseErr → Result Program Refusal
program_of (Ok tree) = planned tree (plan_of tree)
program_of (Err why) = Err (parse_refusal why)

-- The program of a text, or why it has none.
unfoldable pub program_in : List ℕ → Result Program Refusal
program_in text =
    if nat_le (length text) limit.SCRIPT_MAX
    then program_of (parsed text)
    else Err (refusal.TooLarge place.Script)

abbrev pub program_headers : Result Program Refusal → List (List ℕ)
program_headers (Ok program) = headers_of program.plan.fields
program_headers (Err why) = []

-- The header texts of the fields of a text's script; none where it isn't accepted.
abbrev pub headers_in : List ℕ → List (List ℕ)
headers_in text = program_headers (program_in text)

-- What a contract sees of a checked script.
abbrev pub checked_program : Checked → Program
checked_program checked = record { tree = checked_tree checked; plan = checked_plan checked }
