-- The end of a call whose files have records, as the function that the code is proved against.
use Rattle.std.specs.Prelude.{ℕ, List, Option, None, Some, Result, Ok, Err}
use Rattle.sym_base.specs.declared.values.record.Record.{Record}
use Rattle.sym_files.specs.declared.error.PassErr.{PassErr}
use Rattle.sym_files.specs.FirstProblems.{records_in}
use Rattle.sym_command.specs.Commands.{Asked, Command, command_of, file_rules, first_no}
use Rattle.sym_message.specs.declared.refusal.Refusal.{Refusal}
use Rattle.sym_message.specs.declared.refusal.Refusal.TheVariants as refusal
use Rattle.sym_message.specs.Refusals.{pass_refusal}
use Rattle.sym_top.specs.Ends.{End, Refused, Held, script_of, files_of, whole_end}
use Rattle.sym_top.specs.Programs.{Program, program_in}

abbrev pub files_end : Asked → Command → Program → Result (List Record) PassErr → End
files_end asked command program (Ok records) = whole_end asked command program records
files_end asked command program (Err why) = Refused (pass_refusal why)

abbrev pub program_end : Asked → Command → Result Program Refusal → List (List ℕ) → End
program_end asked command (Ok program) files =
    files_end asked command program
    (records_in program.plan (file_rules asked command) 0 (first_no command) files)
program_end asked command (Err why) files = Refused why

abbrev pub command_end : Asked → Option Command → Held → End
command_end asked None held = Refused refusal.Usage
command_end asked (Some command) held =
    program_end asked command (program_in (script_of command held)) (files_of command held)

abbrev pub end_of : Asked → Held → End
end_of asked held = command_end asked (command_of asked) held
