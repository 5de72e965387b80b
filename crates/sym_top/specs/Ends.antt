-- The end of a call, as a relation between what it is asked and the bytes of the files that it
-- reads. The rows are those of one sequential pass, by the SYMPLE paper (SOSP 2015). Causes, statuses,
-- limits and their order are this project's profile.
use Rattle.std.specs.Prelude.{◌≡◌, ℕ, Bool, true, false, if◌then◌else◌, List, [], ◌∷◌, map, None, Some}
use Rattle.sym_base.specs.declared.values.record.Record.{Record}
use Rattle.sym_check.specs.Meaning.Groups.{pass}
use Rattle.sym_files.specs.declared.error.PassErr.{PassErr}
use Rattle.sym_files.specs.FirstProblems.{AllFine, FirstProblem}
use Rattle.sym_reduce.specs.declared.error.ReduceErr.{ReduceErr}
use Rattle.sym_reduce.specs.Joining.{AreRunFiles, FirstJoinProblem}
use Rattle.sym_file.specs.TakenTexts.{Pairs}
use Rattle.sym_reduce.specs.Reducing.{AreReduced, FirstRunProblem}
use Rattle.sym_report.specs.declared.rows.Heads.{Heads}
use Rattle.sym_report.specs.declared.rows.Row.{Row}
use Rattle.sym_report.specs.ReportRows.{heads_of, row_of, some_faulty}
use Rattle.sym_run.specs.declared.saved.Saved.{Saved}
use Rattle.sym_report.specs.Forms.{FormTexts, report_text}
use Rattle.sym_parse.specs.Printed.{script_text}
use Rattle.sym_trace.specs.TraceReports.{trace_heads, trace_rows}
use Rattle.sym_command.specs.Commands.{Asked, Command, Join, Reduce, Runs, Traces, Checks, Makes, Maps, Reduces, Joins, ReadsRecords, command_of, file_rules, first_no, texts_of}
use Rattle.sym_message.specs.declared.refusal.Refusal.{Refusal}
use Rattle.sym_message.specs.declared.refusal.Refusal.TheVariants as refusal
use Rattle.sym_message.specs.declared.status.Status.{Status}
use Rattle.sym_message.specs.declared.status.Status.TheVariants as status
use Rattle.sym_message.specs.CheckLines.{check_line}
use Rattle.sym_message.specs.Summaries.{summary_text}
use Rattle.sym_message.specs.Refusals.{pass_refusal, status_of_refusal}
use Rattle.sym_top.specs.Making.{made_file, made_script}
use Rattle.sym_top.specs.Programs.{Program, IsProgram, IsNoProgram}
use Rattle.sym_top.specs.SavedFiles.{IsJoined, IsMapped}
use Rattle.sym_top.specs.RunFileRefusals.{reduce_refusal}

-- How a call ends: refused for a cause; with a report, which is shown in this form and has these
-- names and rows; with a text of a script; with the summary of so many records, which have these
-- report rows; with a saved run of records, the first of which has this number, whose chains are
-- tight for a limit; or with the join, by a limit, of saved runs.
pub data End : Type 0 where
  Refused : Refusal → End
  Reported : FormTexts → Heads → List Row → End
  Said : List ℕ → End
  Summed : ℕ → List Row → End
  Mapped : Program → ℕ → ℕ → List Record → End
  Joined : Program → ℕ → List Saved → End

-- An end with a text: no refusal.
abbrev pub IsWhole : End → Type 0
IsWhole (Refused why) = ⊥
IsWhole (Reported form heads rows) = Unit {0}
IsWhole (Said text) = Unit {0}
IsWhole (Summed records rows) = Unit {0}
IsWhole (Mapped program first limit records) = Unit {0}
IsWhole (Joined program limit runs) = Unit {0}

-- The status of rows: Faulted if one of them is faulty.
abbrev pub rows_status : List Row → Status
rows_status rows = if some_faulty rows then status.Faulted else status.Done

-- The status of an end.
abbrev pub status_of : End → Status
status_of (Refused why) = status_of_refusal why
status_of (Reported form heads rows) = rows_status rows
status_of (Said text) = status.Done
status_of (Summed records rows) = rows_status rows
status_of (Mapped program first limit records) = status.Done
status_of (Joined program limit runs) = status.Done

-- The text of an end: nothing if the call is refused, else the report in its form, what is said of
-- the script, the summary, or the text of a saved run, of which there may be several.
pub data IsTextOf : End → List ℕ → Type 0 where
  nothing : (why : Refusal) → IsTextOf (Refused why) []
  report_in : (form : FormTexts) (heads : Heads) (rows : List Row)
      → IsTextOf (Reported form heads rows) (report_text form heads rows)
  said : (text : List ℕ) → IsTextOf (Said text) text
  summed : (records : ℕ) (rows : List Row)
      → IsTextOf (Summed records rows) (summary_text records rows)
  mapped : (program : Program) (first limit : ℕ) (records : List Record) (text : List ℕ)
      → IsMapped program first limit records text
      → IsTextOf (Mapped program first limit records) text
  joined : (program : Program) (limit : ℕ) (runs : List Saved) (text : List ℕ)
      → IsJoined program limit runs text
      → IsTextOf (Joined program limit runs) text

-- The bytes of the files of the store that a command reads: the script, and the files in order, as
-- many as are named (`MayHold` says so of a call's store).
pub record Held : Type 0 where
  pub script : List ℕ
  pub files : List (List ℕ)

-- The text of a command's script.
abbrev pub script_of : Command → Held → List ℕ
script_of (Runs run) held = held.script
script_of (Traces trace) held = held.script
script_of (Checks check) held = held.script
script_of (Makes make) held = made_script
script_of (Maps part) held = held.script
script_of (Reduces reduce) held = held.script
script_of (Joins join) held = held.script

-- The bytes of a command's files of records. `reduce` and `join` have none: their files are of
-- saved runs.
abbrev pub files_of : Command → Held → List (List ℕ)
files_of (Runs run) held = held.files
files_of (Traces trace) held = held.files
files_of (Checks check) held = []
files_of (Makes make) held = made_file make.records make.seed ∷ []
files_of (Maps part) held = held.files
files_of (Reduces reduce) held = []
files_of (Joins join) held = []

-- The report rows of groups.
abbrev pub group_rows : Program → Pairs → List Row
group_rows program groups = map (row_of program.tree program.plan) groups

-- The report rows of one sequential pass over records.
abbrev pub rows_of : Program → List Record → List Row
rows_of program records = group_rows program (pass program.plan records)

-- The report of groups.
abbrev pub groups_end : FormTexts → Program → Pairs → End
groups_end form program groups =
    Reported form (heads_of program.tree program.plan) (group_rows program groups)

-- The report of one sequential pass over records.
abbrev pub report_of : FormTexts → Program → List Record → End
report_of form program records = groups_end form program (pass program.plan records)

-- The report of the trace of records: a row for each record whose number `every` divides.
abbrev pub trace_report_of : FormTexts → Program → ℕ → List Record → End
trace_report_of form program every records =
    Reported form (trace_heads program.tree program.plan)
    (trace_rows program.tree program.plan every records)

-- What `check` says of a script: its line, or the script as it is printed.
abbrev pub said_of : Bool → Program → List ℕ
said_of true program = script_text program.tree
said_of false program = check_line program.plan

-- The end of a command whose script is accepted, and whose files are fine and have these records. Of
-- `reduce`, whose files are of saved runs, these are the records that the saved runs stand for. No
-- end of `join` comes by records: this is that of no files.
abbrev pub whole_end : Asked → Command → Program → List Record → End
whole_end asked (Runs run) program records =
    report_of (texts_of asked.forms run.form) program records
whole_end asked (Traces trace) program records =
    trace_report_of (texts_of asked.forms trace.form) program trace.every records
whole_end asked (Checks check) program records = Said (said_of check.print program)
whole_end asked (Makes make) program records = Summed make.records (rows_of program records)
whole_end asked (Maps part) program records =
    Mapped program part.first part.options.limit records
whole_end asked (Reduces reduce) program records =
    report_of (texts_of asked.forms reduce.form) program records
whole_end asked (Joins join) program records = Joined program join.limit []

-- The end of a call. The stages stand in the order in which they are tried; the last four are those
-- of `reduce` and of `join`, in place of the two before them.
pub data IsEnd (asked : Asked) (held : Held) : End → Type 0 where
  usage : command_of asked ≡ None
      → IsEnd asked held (Refused refusal.Usage)
  no_program : (command : Command) (why : Refusal)
      → command_of asked ≡ Some command
      → IsNoProgram (script_of command held) why
      → IsEnd asked held (Refused why)
  problem : (command : Command) (program : Program) (why : PassErr)
      → command_of asked ≡ Some command
      → IsProgram (script_of command held) program
      → FirstProblem program.plan (file_rules asked command) 0 (first_no command)
      (files_of command held) why
      → IsEnd asked held (Refused (pass_refusal why))
  finished : (command : Command) (program : Program) (records : List Record)
      → command_of asked ≡ Some command
      → IsProgram (script_of command held) program
      → ReadsRecords command
      → AllFine program.plan (file_rules asked command) (first_no command)
      (files_of command held) records
      → IsEnd asked held (whole_end asked command program records)
  run_problem : (reduce : Reduce) (program : Program) (why : ReduceErr)
      → command_of asked ≡ Some (Reduces reduce)
      → IsProgram held.script program
      → FirstRunProblem (script_text program.tree) program.plan reduce.max_bytes 0 1 []
      held.files why
      → IsEnd asked held (Refused (reduce_refusal why))
  reduced : (reduce : Reduce) (program : Program) (end : ℕ) (totals : Pairs)
      → command_of asked ≡ Some (Reduces reduce)
      → IsProgram held.script program
      → AreReduced (script_text program.tree) program.plan reduce.max_bytes 1 [] held.files
      end totals
      → IsEnd asked held (groups_end (texts_of asked.forms reduce.form) program totals)
  join_problem : (join : Join) (program : Program) (why : ReduceErr)
      → command_of asked ≡ Some (Joins join)
      → IsProgram held.script program
      → FirstJoinProblem (script_text program.tree) program.plan join.max_bytes held.files why
      → IsEnd asked held (Refused (reduce_refusal why))
  runs_joined : (join : Join) (program : Program) (runs : List Saved)
      → command_of asked ≡ Some (Joins join)
      → IsProgram held.script program
      → AreRunFiles (script_text program.tree) program.plan join.max_bytes held.files runs
      → IsEnd asked held (Joined program join.limit runs)
