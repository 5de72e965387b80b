-- What `run` comes to, in a user's words: the report and the status of one sequential pass over the
-- records of all files. The pass is that of the SYMPLE paper (SOSP 2015).
use Rattle.std.specs.Prelude.{◌≡◌, ℕ, List, map, Some}
use Rattle.sym_base.specs.declared.values.record.Record.{Record}
use Rattle.sym_files.specs.FileRecords.{rules_of}
use Rattle.sym_files.specs.FirstProblems.{AllFine}
use Rattle.sym_report.specs.Forms.{FormTexts, report_text}
use Rattle.sym_report.specs.ReportRows.{heads_of}
use Rattle.sym_command.specs.Commands.{Run, Runs, command_of}
use Rattle.sym_message.specs.declared.status.Status.{Status}
use Rattle.sym_message.specs.Telling.{Sunk, Has}
use Rattle.sym_top.specs.Ends.{rows_of, rows_status}
use Rattle.sym_top.specs.Programs.{Program, IsProgram}
use Rattle.sym_top.specs.Promises.{Call, IsUntouched}

-- A call of `run` whose script and files are visible, whose script is accepted, and whose files have
-- no problem.
pub record FineRun (call : Call) : Type 0 where
  -- The arguments ask for this run, with any chunk, limit and workers. The form that it names is
  -- one of those that are handed in.
  pub run : Run
  pub asks : command_of call.asked ≡ Some (Runs run)
  -- The store tells the text of the script.
  pub text : List ℕ
  pub tells_text : call.holds run.script ≡ Some text
  -- The text is that of a script that breaks no rule, and these are the script and its plan.
  pub program : Program
  pub accepted : IsProgram text program
  -- The store tells the bytes of each file.
  pub bytes : List (List ℕ)
  pub tells_bytes : map call.holds run.files ≡ map Some bytes
  -- Each file is small enough. It has no rows, or its first row is a fine header and all others, as
  -- the gate shows them, are records. These are the records of all files, in order.
  pub records : List Record
  pub fine : AllFine program.plan (rules_of run.options.max_bytes call.asked.shown) 1 bytes records

-- The report of one sequential pass over the records, in this form.
abbrev pub pass_text : FormTexts → Program → List Record → List ℕ
pass_text form program records =
    report_text form (heads_of program.tree program.plan) (rows_of program records)

-- The output, where its content is visible, grew by exactly the report of one sequential pass over
-- the records, in this form. The status is Faulted if a row of the pass is faulty, else Done.
-- Nothing was written to the sink for errors, as far as it tells. Observers have sinks of their own.
pub record IsOnePass (form : FormTexts) (program : Program) (records : List Record)
    (out err : Sunk) (result : Status) : Type 0 where
  pub report : Has out (pass_text form program records)
  pub status_is : result ≡ rows_status (rows_of program records)
  pub quiet : IsUntouched err
