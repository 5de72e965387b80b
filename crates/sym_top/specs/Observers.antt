-- What the observers of a call were told of, by its status. `run --watch` alone tells them, of the
-- partials at the borders of the rounds that were done. The option is this project's profile.
use Rattle.std.specs.Prelude.{◌≡◌, ◌<◌, ◌⊎◌, ℕ, if◌then◌else◌, List, length, map, Option, None, Some, Result, Ok, Err}
use Rattle.sym_base.specs.Counts.{Rose}
use Rattle.sym_base.specs.declared.limits.TheConstants as limit
use Rattle.sym_files.specs.declared.error.PassErr.{PassErr}
use Rattle.sym_files.specs.FileRecords.{rules_of}
use Rattle.sym_watched.specs.Partials.{ToldAll, ToldUntil, WatchedFiles, watched_files}
use Rattle.sym_files.specs.Passing.{Holds, May, StopsPass}
use Rattle.sym_table.specs.Reading.{Row as FileRow}
use Rattle.sym_watch.specs.Logs.{Log}
use Rattle.sym_command.specs.declared.commands.Run.{Run as RunRead}
use Rattle.sym_command.specs.Commands.{Command, Run, Runs, Traces, Checks, Makes, Maps, Reduces, Joins, command_of, file_rules}
use Rattle.sym_command.specs.Words.{run_seen}
use Rattle.sym_message.specs.declared.refusal.Refusal.{Refusal}
use Rattle.sym_message.specs.declared.status.Status.{Status}
use Rattle.sym_message.specs.declared.status.Status.TheVariants as status
use Rattle.sym_message.specs.Refusals.{pass_refusal, status_of_refusal}
use Rattle.sym_top.specs.declared.output.Stop.{Stop}
use Rattle.sym_top.specs.Loading.{Loads, Unloads}
use Rattle.sym_top.specs.Programs.{Program}
use Rattle.sym_top.specs.Promises.{Call}

-- The logs of a call's observers, in order, before it and after it.
pub record Logs : Type 0 where
  pub before : List Log
  pub after : List Log

-- The same of observers of any type, by what the type says of its values.
abbrev pub logs_of : {O : Type 0} → (O → Log) → List O → List O → Logs
logs_of log before after = record { before = map log before; after = map log after }

-- No observer was told of anything.
abbrev pub AreUntold : Logs → Type 0
AreUntold logs = logs.after ≡ logs.before

-- The run whose observers are told, if there is one: that of `run --watch`.
abbrev pub watched_run : Option Command → Option Run
watched_run None = None
watched_run (Some (Runs run)) = if run.watch then Some run else None
watched_run (Some (Traces trace)) = None
watched_run (Some (Checks check)) = None
watched_run (Some (Makes make)) = None
watched_run (Some (Maps part)) = None
watched_run (Some (Reduces reduce)) = None
watched_run (Some (Joins join)) = None

-- No observers of the call are told.
abbrev pub IsUnwatched : Call → Type 0
IsUnwatched call = watched_run (command_of call.asked) ≡ None

-- The files of a run with this script, whose records are numbered from 1 on.
abbrev pub run_files : Call → Run → Program → WatchedFiles
run_files call run program =
    let rules = file_rules call.asked (Runs run) in
    watched_files program.plan rules run.options.chunk call.holds run.files 1

-- The same of a run as it was read, over a store that tells so, with a gate that shows rows so.
abbrev pub watched_by : (FileRow → FileRow) → Holds → RunRead → Program → WatchedFiles
watched_by shown holds run program =
    let rules = rules_of run.options.max_bytes shown in
    watched_files program.plan rules run.options.chunk holds (run_seen run).files 1

-- All files were taken, and the observers were told of the partials of all rounds.
pub record AreToldAll (call : Call) (run : Run) (logs : Logs) : Type 0 where
  pub program : Program
  pub loads : Loads (call.holds run.script) program
  pub told : ToldAll program.tree (run_files call run program) logs.before logs.after

-- The files weren't taken for this reason, and the observers were told of the partials of the
-- rounds that were done before; where an allocation failed, of a prefix of them.
pub record AreToldUntil (call : Call) (run : Run) (logs : Logs) (why : PassErr) : Type 0 where
  pub program : Program
  pub loads : Loads (call.holds run.script) program
  pub stops : StopsPass program.plan (file_rules call.asked (Runs run)) call.holds run.files
      call.before call.after why
  pub told : ToldUntil program.tree (run_files call run program) logs.before logs.after why

-- The same for a reason that has this status.
pub record FilesStop (call : Call) (run : Run) (logs : Logs) (result : Status) : Type 0 where
  pub why : PassErr
  pub status_is : result ≡ status_of_refusal (pass_refusal why)
  pub until : AreToldUntil call run logs why

-- A read of the script failed, and no observer was told.
pub record ScriptUnread (call : Call) (run : Run) (logs : Logs) : Type 0 where
  pub rose : Rose (call.before run.script) (call.after run.script)
  pub untold : AreUntold logs

-- The script's file may hold a text that is too large, and no observer was told.
pub record ScriptTooLarge (call : Call) (run : Run) (logs : Logs) : Type 0 where
  pub text : List ℕ
  pub may : May (call.holds run.script) text
  pub large : limit.SCRIPT_MAX < length text
  pub untold : AreUntold logs

-- What the observers of a `run --watch` were told of, by its status.
abbrev pub AreToldBy : Call → Run → Logs → Status → Type 0
AreToldBy call run logs status.Done = AreToldAll call run logs
AreToldBy call run logs status.Faulted = AreToldAll call run logs
AreToldBy call run logs status.Usage = AreUntold logs
AreToldBy call run logs status.Script = AreUntold logs
AreToldBy call run logs status.Input = FilesStop call run logs status.Input
AreToldBy call run logs status.ReadFault =
    ScriptUnread call run logs ⊎ FilesStop call run logs status.ReadFault
AreToldBy call run logs status.WriteFault = AreToldAll call run logs
AreToldBy call run logs status.TooLarge =
    ScriptTooLarge call run logs ⊎ FilesStop call run logs status.TooLarge
AreToldBy call run logs status.NoMemory =
    AreUntold logs ⊎ FilesStop call run logs status.NoMemory

-- What observers were told of: nothing, where there is no run that is watched.
abbrev pub AreToldOf : Option Run → Call → Logs → Status → Type 0
AreToldOf None call logs result = AreUntold logs
AreToldOf (Some run) call logs result = AreToldBy call run logs result

-- What the observers of a call were told of.
abbrev pub AreTold : Call → Logs → Status → Type 0
AreTold call logs result = AreToldOf (watched_run (command_of call.asked)) call logs result

-- ---- the steps of a run
-- Why a run stops before it writes, and what its observers were told of until then.
pub data AreToldTo (call : Call) (run : Run) (logs : Logs) : Refusal → Type 0 where
  at_script : (why : Refusal)
      → Unloads (call.holds run.script) (call.before run.script) (call.after run.script) why
      → AreUntold logs
      → AreToldTo call run logs why
  at_files : (why : PassErr)
      → AreToldUntil call run logs why
      → AreToldTo call run logs (pass_refusal why)

-- What the observers of a call were told of when a report is ready to be written, or there is none.
abbrev pub AreToldBefore : {A : Type 0} → Option Run → Call → Logs → Result A Stop → Type 0
AreToldBefore None call logs made = AreUntold logs
AreToldBefore (Some run) call logs (Ok output) = AreToldAll call run logs
AreToldBefore (Some run) call logs (Err stop) = AreToldTo call run logs stop.why

-- The same of its own run, and that the observers are as they were without one.
pub record IsObserved {A W : Type 0} (call : Call) (logs : Logs) (observers observers_after : W)
    (made : Result A Stop) : Type 0 where
  pub told : AreToldBefore (watched_run (command_of call.asked)) call logs made
  pub unwatched : IsUnwatched call → observers_after ≡ observers
