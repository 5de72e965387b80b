-- The calls of each command: the bytes that each reads, and the ends to which they come.
use Rattle.std.proofs.Common.{◌≡◌, ℕ, true, List, [], ◌∷◌, codes, map, refl}
use Rattle.sym_base.specs.declared.values.record.Record.{Record}
use Rattle.sym_check.specs.Meaning.Groups.{pass}
use Rattle.sym_parse.specs.Printed.{script_text}
use Rattle.sym_report.specs.ReportRows.{heads_of, row_of}
use Rattle.sym_run.specs.declared.saved.Saved.{Saved}
use Rattle.sym_trace.specs.TraceReports.{trace_heads, trace_rows}
use Rattle.sym_command.specs.Commands.{Command, Runs, Traces, Checks, Makes, Maps, Reduces, Joins}
use Rattle.sym_command.proofs.AskedExamples.{saying, call, run, run_call, trace, trace_call, check, check_call, make, make_call, part, map_call, reduce, reduce_call, join, join_call, csv_run, csv_run_words, csv_trace, csv_trace_words, csv_reduce, csv_reduce_words}
use Rattle.sym_message.specs.declared.status.Status.TheVariants as status
use Rattle.sym_message.specs.CheckLines.{check_line}
use Rattle.sym_top.specs.Ends.{Reported, Said, Summed, Mapped, Joined, Held, script_of, files_of, status_of, whole_end}
use Rattle.sym_top.specs.Making.{made_file, made_script}
use Rattle.sym_top.specs.Programs.{Program}

-- The script's text and the files of records of a command, by the bytes of the named files.
record Reads (command : Command) (script : Held → List ℕ) (files : Held → List (List ℕ)) : Type 0 where
  script_is : (held : Held) → script_of command held ≡ script held
  files_are : (held : Held) → files_of command held ≡ files held

-- ---- `run`
a_run : Reads (Runs run) (λ held. held.script) (λ held. held.files)
a_run = record { script_is = λ held. refl; files_are = λ held. refl }

run_end : (program : Program) (records : List Record) → whole_end run_call (Runs run) program records
    ≡ Reported (saying (codes "b")) (heads_of program.tree program.plan) (map (row_of program.tree program.plan) (pass program.plan records))
run_end program records = refl

-- ---- `trace`
a_trace : Reads (Traces trace) (λ held. held.script) (λ held. held.files)
a_trace = record { script_is = λ held. refl; files_are = λ held. refl }

trace_end : (program : Program) (records : List Record) → whole_end trace_call (Traces trace) program records
    ≡ Reported (saying (codes "b")) (trace_heads program.tree program.plan) (trace_rows program.tree program.plan 20 records)
trace_end program records = refl

-- ---- `check`: it reads no files of records
a_check : Reads (Checks check) (λ held. held.script) (λ held. [])
a_check = record { script_is = λ held. refl; files_are = λ held. refl }

check_end : (program : Program) (records : List Record) → whole_end check_call (Checks check) program records ≡ Said (check_line program.plan)
check_end program records = refl

print_end : (program : Program) (records : List Record) → whole_end check_call (Checks (record check { print = true })) program records
    ≡ Said (script_text program.tree)
print_end program records = refl

-- ---- `make`: the script and the log are its own
a_make : Reads (Makes make) (λ held. made_script) (λ held. made_file 5 1 ∷ [])
a_make = record { script_is = λ held. refl; files_are = λ held. refl }

make_end : (program : Program) (records : List Record) → whole_end make_call (Makes make) program records
    ≡ Summed 5 (map (row_of program.tree program.plan) (pass program.plan records))
make_end program records = refl

-- ---- `map`
a_map : Reads (Maps part) (λ held. held.script) (λ held. held.files)
a_map = record { script_is = λ held. refl; files_are = λ held. refl }

map_end : (program : Program) (records : List Record) → whole_end map_call (Maps part) program records ≡ Mapped program 1001 7 records
map_end program records = refl

-- ---- `reduce`: its files have no records
a_reduce : Reads (Reduces reduce) (λ held. held.script) (λ held. [])
a_reduce = record { script_is = λ held. refl; files_are = λ held. refl }

reduce_end : (program : Program) (records : List Record) → whole_end reduce_call (Reduces reduce) program records
    ≡ Reported (saying (codes "b")) (heads_of program.tree program.plan) (map (row_of program.tree program.plan) (pass program.plan records))
reduce_end program records = refl

-- ---- `join`: its files have no records
a_join : Reads (Joins join) (λ held. held.script) (λ held. [])
a_join = record { script_is = λ held. refl; files_are = λ held. refl }

-- The end of a join comes by the saved runs of its files, and not by records.
join_end : (program : Program) (records : List Record) → whole_end join_call (Joins join) program records ≡ Joined program 7 []
join_end program records = refl

-- ---- the status of a script that is checked, of a log that is mapped and of files that are joined, whatever their records do
check_ends : (program : Program) (records : List Record) → status_of (whole_end check_call (Checks check) program records) ≡ status.Done
check_ends program records = refl

map_ends : (program : Program) (records : List Record) → status_of (whole_end map_call (Maps part) program records) ≡ status.Done
map_ends program records = refl

join_ends : (program : Program) (limit : ℕ) (saved : List Saved) → status_of (Joined program limit saved) ≡ status.Done
join_ends program limit saved = refl

-- ---- with `--form csv`: the report is in that form, and not in the default one
csv_run_end : (program : Program) (records : List Record) → whole_end (call csv_run_words) (Runs csv_run) program records
    ≡ Reported (saying (codes "a")) (heads_of program.tree program.plan) (map (row_of program.tree program.plan) (pass program.plan records))
csv_run_end program records = refl

csv_trace_end : (program : Program) (records : List Record) → whole_end (call csv_trace_words) (Traces csv_trace) program records
    ≡ Reported (saying (codes "a")) (trace_heads program.tree program.plan) (trace_rows program.tree program.plan 1 records)
csv_trace_end program records = refl

csv_reduce_end : (program : Program) (records : List Record) → whole_end (call csv_reduce_words) (Reduces csv_reduce) program records
    ≡ Reported (saying (codes "a")) (heads_of program.tree program.plan) (map (row_of program.tree program.plan) (pass program.plan records))
csv_reduce_end program records = refl
