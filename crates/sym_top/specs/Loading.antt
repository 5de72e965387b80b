-- What the steps of a call come to.
use Rattle.std.specs.Prelude.{◌≡◌, ℕ, ◌⊎◌, List, [], Option, None, Some, Result, Ok, Err, MatchResult}
use Rattle.std.specs.Option.{option_map}
use Rattle.sym_base.specs.Counts.{Rose}
use Rattle.sym_base.specs.declared.values.record.Record.{Record}
use Rattle.sym_base.specs.declared.values.state.Outcome.{Outcome}
use Rattle.sym_base.specs.declared.values.value.Key.{Key}
use Rattle.sym_check.specs.Meaning.Groups.{pass}
use Rattle.sym_check.specs.Checking.CheckedScripts.{checked_plan}
use Rattle.sym_check.specs.declared.checked.accepted.Checked.{Checked}
use Rattle.sym_files.specs.declared.error.PassErr.{PassErr}
use Rattle.sym_files.specs.FileRecords.{FileRules}
use Rattle.sym_files.specs.FirstProblems.{AllFine, FirstProblem}
use Rattle.sym_files.specs.Passing.{May}
use Rattle.sym_command.specs.declared.place.Place.TheVariants as place
use Rattle.sym_command.specs.declared.commands.Command.{Command as CommandRead}
use Rattle.sym_command.specs.Commands.{shown_names}
use Rattle.sym_command.specs.Words.{command_seen}
use Rattle.sym_message.specs.declared.refusal.Refusal.{Refusal}
use Rattle.sym_message.specs.declared.refusal.Refusal.TheVariants as refusal
use Rattle.sym_message.specs.declared.status.Status.{Status}
use Rattle.sym_message.specs.declared.status.Status.TheVariants as status
use Rattle.sym_message.specs.Messages.{headers_of, line_of}
use Rattle.sym_message.specs.Refusals.{pass_refusal, status_of_refusal}
use Rattle.sym_message.specs.Telling.{Sunk}
use Rattle.sym_top.specs.declared.output.Output.{Output}
use Rattle.sym_top.specs.declared.output.Stop.{Stop}
use Rattle.sym_top.specs.declared.output.Text.{Text}
use Rattle.sym_top.specs.declared.output.Text.TheVariants.{Plain, Gathered}
use Rattle.sym_top.specs.Ends.{Held}
use Rattle.sym_top.specs.Programs.{Program, IsProgram, IsNoProgram}
use Rattle.sym_top.specs.Promises.{Call, MayHold, IsStop, IsUntouched, HasReport, Wrote, Refuses, IsUsage, IsReported, IsRefused, call_line}

-- A text that isn't too large is refused for its own sake, or memory ran out.
abbrev pub MayRefuse : List ℕ → Refusal → Type 0
MayRefuse text why = (why ≡ refusal.NoMemory) ⊎ IsNoProgram text why

-- The program is that of a text which the script's file may hold.
pub record Loads (told : Option (List ℕ)) (program : Program) : Type 0 where
  pub text : List ℕ
  pub may : May told text
  pub is_program : IsProgram text program

-- Why there is no program: a text which the file may hold has none, a read of the file failed, or
-- memory ran out.
pub data Unloads (told : Option (List ℕ)) (before after : ℕ) : Refusal → Type 0 where
  refused : (text : List ℕ) (why : Refusal)
      → May told text
      → IsNoProgram text why
      → Unloads told before after why
  unread : Rose before after → Unloads told before after (refusal.Read place.Script)
  no_memory : Unloads told before after refusal.NoMemory

-- The groups are those of one sequential pass over the records of these files.
pub record Passed (program : Program) (rules : FileRules) (files : List (List ℕ))
    (groups : List (Key × Outcome)) : Type 0 where
  pub records : List Record
  pub fine : AllFine program.plan rules 1 files records
  pub stands : groups ≡ pass program.plan records

-- Why there are no groups: the first problem of these files, or memory ran out.
pub data StopsRecords (program : Program) (rules : FileRules) (files : List (List ℕ)) :
    Refusal → Type 0 where
  first : (why : PassErr)
      → FirstProblem program.plan rules 0 1 files why
      → StopsRecords program rules files (pass_refusal why)
  no_more : StopsRecords program rules files refusal.NoMemory

-- A call that is ready to write this text, and then to end with this status.
pub record Ready (call : Call) (status : Status) (text : List ℕ) : Type 0 where
  pub held : Held
  pub may : MayHold call held
  pub has : HasReport call.asked held status text

-- The bytes of a text, by what a form has gathered.
abbrev pub text_bytes : {F : Type 0} → (F → List ℕ) → Text F → List ℕ
text_bytes gathered (Plain bytes) = bytes.items
text_bytes gathered (Gathered form) = gathered form

-- The header texts of the fields of a script, if one was accepted.
abbrev pub known_headers : Option Checked → List (List ℕ)
known_headers None = []
known_headers (Some checked) = headers_of (checked_plan checked).fields

-- The line of a stop, by the command, if there is one, and by the script.
abbrev pub stop_line : Option CommandRead → Stop → List ℕ
stop_line command stop =
    line_of (shown_names (option_map command_seen command)) (known_headers stop.checked) stop.why

-- Why a call stops before it writes. Its line names what the line of the script's text would name.
pub record Stops (call : Call) (command : Option CommandRead) (stopped : Stop) : Type 0 where
  pub held : Held
  pub may : MayHold call held
  pub stop : IsStop call held stopped.why
  pub line : stop_line command stopped ≡ call_line call held stopped.why

-- What a command comes to before anything is written: a text that is ready, or a stop.
abbrev pub ComesTo : {F : Type 0} → Call → (F → List ℕ) → Option CommandRead
    → Result (Output F) Stop → Type 0
ComesTo call gathered command made =
    MatchResult made (λ output. Ready call output.status (text_bytes gathered output.text))
    (Stops call command)

-- The same, of which the store is left as it was with arguments of no command.
pub record IsPrepared {F S : Type 0} (call : Call) (gathered : F → List ℕ)
    (command : Option CommandRead) (files files_after : S) (made : Result (Output F) Stop)
    : Type 0 where
  pub comes_to : ComesTo call gathered command made
  pub unread : IsUsage call → files_after ≡ files

-- How a call may end: with the status of its text, if that was written whole, or with that of what
-- stopped it.
abbrev pub MayEnd : {F : Type 0} → Result (Output F) Stop → Status → Type 0
MayEnd (Ok output) result =
    (result ≡ output.status) ⊎ ((result ≡ status.WriteFault) ⊎ (result ≡ status.NoMemory))
MayEnd (Err stop) result = result ≡ status_of_refusal stop.why

-- What is said of each status: with a text written, and without.
pub record Says (call : Call) (out err : Sunk) (result : Status) : Type 0 where
  pub reported : IsReported result → Wrote call out result
  pub refused : IsRefused result → Refuses call out err result
  pub quiet : IsReported result → IsUntouched err
