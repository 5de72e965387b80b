-- What a report and a refusal of a call are, over any store and sinks. A store may tell what a file
-- holds or not: there are bytes that the files may hold, and the answer is what follows from them.
use Rattle.std.specs.Prelude.{◌≡◌, ℕ, List, [], take, map, Option, None, Some}
use Rattle.sym_base.specs.Counts.{Rose}
use Rattle.sym_base.specs.declared.values.record.Record.{Record}
use Rattle.sym_files.specs.FirstProblems.{AllFine}
use Rattle.sym_parse.specs.Printed.{script_text}
use Rattle.sym_reduce.specs.Joining.{AreRunFiles}
use Rattle.sym_file.specs.TakenTexts.{Pairs}
use Rattle.sym_reduce.specs.Reducing.{AreReduced}
use Rattle.sym_run.specs.declared.saved.Saved.{Saved}
use Rattle.sym_files.specs.Passing.{Holds, Counts, May, MayAll}
use Rattle.sym_report.specs.Forms.{FormTexts}
use Rattle.sym_table.specs.Reading.{Row as FileRow}
use Rattle.sym_command.specs.declared.place.Place.{Place}
use Rattle.sym_command.specs.declared.place.Place.TheVariants as place
use Rattle.sym_command.specs.Commands.{Asked, Command, FileNames, ReadsRecords, Join, Joins, Reduce, Reduces, asks, command_of, file_rules, first_no, forms_of, name_at, names_of, shown_names}
use Rattle.sym_message.specs.declared.refusal.Refusal.{Refusal}
use Rattle.sym_message.specs.declared.refusal.Refusal.TheVariants as refusal
use Rattle.sym_message.specs.declared.status.Status.{Status}
use Rattle.sym_message.specs.declared.status.Status.TheVariants as status
use Rattle.sym_message.specs.Messages.{line_of}
use Rattle.sym_message.specs.Refusals.{status_of_refusal}
use Rattle.sym_message.specs.Telling.{Sunk, Has, HasPrefix, Failed, Short, Tells}
use Rattle.sym_top.specs.Ends.{End, Refused, Held, IsEnd, IsTextOf, IsWhole, script_of, status_of}
use Rattle.sym_top.specs.Programs.{Program, IsProgram, headers_in}

-- A call: what it is asked, what the store tells, and how many reads of each name have failed
-- before and after it.
pub record Call : Type 0 where
  pub asked : Asked
  pub holds : Holds
  pub before : Counts
  pub after : Counts

-- The same of a store of any type, by what the type says of its values.
abbrev pub call_of : {S : Type 0} → (S → Holds) → (S → Counts) → Asked → S → S → Call
call_of holds faults asked before after = record {
  asked = asked;
  holds = holds before;
  before = faults before;
  after = faults after;
}

-- The call of these arguments, which is handed these forms and a gate that shows rows so: by what
-- the types of the forms and of the store say of their values.
abbrev pub call_with : {F S : Type 0} → List (List ℕ) → (F → List ℕ) → (F → FormTexts) → List F
    → (FileRow → FileRow) → (S → Holds) → (S → Counts) → S → S → Call
call_with words called texts forms shown holds faults before after =
    call_of holds faults (asks words (forms_of called texts forms) shown) before after

-- The arguments are those of no command.
abbrev pub IsUsage : Call → Type 0
IsUsage call = command_of call.asked ≡ None

-- The names of the files that the call reads.
abbrev pub call_names : Call → FileNames
call_names call = names_of (command_of call.asked)

-- The bytes that a script may have; none where none is named.
abbrev pub MayScript : Holds → Option (List ℕ) → List ℕ → Type 0
MayScript holds None text = text ≡ []
MayScript holds (Some name) text = May (holds name) text

-- The named files may hold these bytes. A name that stands twice may hold other bytes where the
-- store doesn't tell.
abbrev pub MayHold : Call → Held → Type 0
MayHold call held =
    MayScript call.holds (call_names call).script held.script
    × MayAll call.holds (call_names call).files held.files

-- The store tells that the script has just these bytes; none where none is named.
abbrev pub TellsScript : Holds → Option (List ℕ) → List ℕ → Type 0
TellsScript holds None text = text ≡ []
TellsScript holds (Some name) text = holds name ≡ Some text

-- The store tells that the named files hold just these bytes.
abbrev pub Told : Call → Held → Type 0
Told call held =
    TellsScript call.holds (call_names call).script held.script
    × (map call.holds (call_names call).files ≡ map Some held.files)

-- The text of the script that the call uses; none without a command.
abbrev pub call_script : Option Command → Held → List ℕ
call_script None held = []
call_script (Some command) held = script_of command held

-- The line of a refusal of the call, by the names of its files and of its script's fields.
abbrev pub call_line : Call → Held → Refusal → List ℕ
call_line call held why =
    let command = command_of call.asked in
    line_of (shown_names command) (headers_in (call_script command held)) why

-- A read of the file at this place failed.
pub record ReadFailed (call : Call) (at : Place) : Type 0 where
  pub name : List ℕ
  pub named : name_at (call_names call) at ≡ Some name
  pub rose : Rose (call.before name) (call.after name)

-- Why a call stops before it writes: its end, a read that failed, or an allocation. A failed read
-- is that of the script, or of a file before which no file has a problem.
pub data IsStop (call : Call) (held : Held) : Refusal → Type 0 where
  at_end : (why : Refusal)
      → IsEnd call.asked held (Refused why)
      → IsStop call held why
  script_unread : ReadFailed call place.Script
      → IsStop call held (refusal.Read place.Script)
  file_unread : (command : Command) (program : Program) (records : List Record) (number : ℕ)
      → command_of call.asked ≡ Some command
      → IsProgram (script_of command held) program
      → ReadsRecords command
      → AllFine program.plan (file_rules call.asked command) (first_no command)
      (take number held.files) records
      → ReadFailed call (place.File number)
      → IsStop call held (refusal.Read (place.File number))
  run_unread : (reduce : Reduce) (program : Program) (end : ℕ) (totals : Pairs) (number : ℕ)
      → command_of call.asked ≡ Some (Reduces reduce)
      → IsProgram held.script program
      → AreReduced (script_text program.tree) program.plan reduce.max_bytes 1 []
      (take number held.files) end totals
      → ReadFailed call (place.File number)
      → IsStop call held (refusal.Read (place.File number))
  join_unread : (join : Join) (program : Program) (runs : List Saved) (number : ℕ)
      → command_of call.asked ≡ Some (Joins join)
      → IsProgram held.script program
      → AreRunFiles (script_text program.tree) program.plan join.max_bytes
      (take number held.files) runs
      → ReadFailed call (place.File number)
      → IsStop call held (refusal.Read (place.File number))
  no_memory : IsStop call held refusal.NoMemory

-- The call comes to an end with this status and text, and isn't refused.
pub record HasReport (asked : Asked) (held : Held) (status : Status)
    (text : List ℕ) : Type 0 where
  pub end : End
  pub is_end : IsEnd asked held end
  pub whole : IsWhole end
  pub status_is : status ≡ status_of end
  pub text_is : IsTextOf end text

-- Nothing was written, as far as the sink tells, and no write failed or found no memory.
pub record IsUntouched (sink : Sunk) : Type 0 where
  pub written : sink.written_after ≡ sink.written
  pub faults : sink.faults_after ≡ sink.faults
  pub short : sink.short_after ≡ sink.short

-- A prefix of a text was written, and a write failed or found no memory.
pub data WriteFails (out : Sunk) (text : List ℕ) : Refusal → Type 0 where
  failed : HasPrefix out text → Failed out → WriteFails out text refusal.Write
  short : HasPrefix out text → Short out → WriteFails out text refusal.NoMemory

-- Why a call is refused, and what was done to `out`: it stopped before it wrote, or the writing of
-- its text was cut.
pub data IsCause (call : Call) (held : Held) (out : Sunk) (why : Refusal) : Type 0 where
  stopped : IsStop call held why
      → IsUntouched out
      → IsCause call held out why
  cut : (status : Status) (text : List ℕ)
      → HasReport call.asked held status text
      → WriteFails out text why
      → IsCause call held out why

-- A call that is refused with this status: there are bytes that the files may hold, by which it has
-- a cause, and the line of the cause is told on `err`.
pub record Refuses (call : Call) (out err : Sunk) (status : Status) : Type 0 where
  pub held : Held
  pub may : MayHold call held
  pub why : Refusal
  pub status_is : status ≡ status_of_refusal why
  pub cause : IsCause call held out why
  pub line : Tells err (call_line call held why)

-- A call that wrote its text: there are bytes that the files may hold, and the text of the end that
-- they lead to is what was written.
pub record Wrote (call : Call) (out : Sunk) (status : Status) : Type 0 where
  pub held : Held
  pub may : MayHold call held
  pub text : List ℕ
  pub report : HasReport call.asked held status text
  pub written : Has out text

-- What is done to the sinks at an end. A refusal leaves `out` untouched and is told on `err`; the
-- text of a whole end is written to `out`, and `err` is left untouched.
pub data LeavesSinks (call : Call) (held : Held) (out err : Sunk) : End → Type 0 where
  line_told : (why : Refusal)
      → IsUntouched out
      → Tells err (call_line call held why)
      → LeavesSinks call held out err (Refused why)
  text_written : (end : End) (text : List ℕ)
      → IsWhole end
      → IsTextOf end text
      → Has out text
      → IsUntouched err
      → LeavesSinks call held out err end

-- The status is that of the end, and the sinks were left so.
pub record Answers (call : Call) (held : Held) (end : End) (out err : Sunk)
    (result : Status) : Type 0 where
  pub status_is : result ≡ status_of end
  pub sinks : LeavesSinks call held out err end

-- A fact of every status but those of a failed read, a failed write and a refused allocation.
abbrev pub Unless : Status → Type 0 → Type 0
Unless status.Done P = P
Unless status.Faulted P = P
Unless status.Usage P = P
Unless status.Script P = P
Unless status.Input P = P
Unless status.ReadFault P = Unit {0}
Unless status.WriteFault P = Unit {0}
Unless status.TooLarge P = P
Unless status.NoMemory P = Unit {0}

-- The whole text was written.
abbrev pub IsReported : Status → Type 0
IsReported status.Done = Unit {0}
IsReported status.Faulted = Unit {0}
IsReported status.Usage = ⊥
IsReported status.Script = ⊥
IsReported status.Input = ⊥
IsReported status.ReadFault = ⊥
IsReported status.WriteFault = ⊥
IsReported status.TooLarge = ⊥
IsReported status.NoMemory = ⊥

-- It wasn't.
abbrev pub IsRefused : Status → Type 0
IsRefused result = IsReported result → ⊥

-- Statuses of a call that stopped before it wrote.
abbrev pub IsUnwritten : Status → Type 0
IsUnwritten status.Done = ⊥
IsUnwritten status.Faulted = ⊥
IsUnwritten status.Usage = Unit {0}
IsUnwritten status.Script = Unit {0}
IsUnwritten status.Input = Unit {0}
IsUnwritten status.ReadFault = Unit {0}
IsUnwritten status.WriteFault = ⊥
IsUnwritten status.TooLarge = Unit {0}
IsUnwritten status.NoMemory = ⊥

-- No fault of a named file was counted.
abbrev pub NoneFailed : Call → Type 0
NoneFailed call = (at : Place) → ReadFailed call at → ⊥

-- The call must write its text, unless memory runs out: the store tells files by which it comes to
-- an end that is no refusal, and no fault of them or of `out` was counted.
pub record MustReport (call : Call) (out : Sunk) : Type 0 where
  pub held : Held
  pub told : Told call held
  pub end : End
  pub is_end : IsEnd call.asked held end
  pub whole : IsWhole end
  pub read : NoneFailed call
  pub written : Failed out → ⊥
