-- Calls of each command: what is asked for, which files are read, and how they are read.
use Rattle.std.proofs.Common.{◌≡◌, ℕ, false, List, [], ◌∷◌, ◌++◌, codes, map, Option, Some, None, ap, refl}
use Rattle.clap.proofs.OnLiterals.{clap_on_literals}
use Rattle.sym_report.specs.Forms.{FormTexts}
use Rattle.sym_table.specs.Reading.{Row}
use Rattle.sym_command.specs.CommandLines.{run_app, trace_app, check_app, make_app, map_app, reduce_app, join_app, matched}
use Rattle.sym_command.specs.Commands.{Asked, Command, Run, Runs, Trace, Traces, Check, Checks, Make, Makes, Map, Maps, Reduce, Reduces, Join, Joins, asks, command_in, command_of, names_of, shown_names, file_rules, first_no, run_of, trace_of, check_of, make_of, map_of, reduce_of, join_of, run_found, trace_found, check_found, make_found, map_found, reduce_found, join_found, run_options, options_found, files_found}
use Rattle.sym_command.specs.Numbers.{number_of}
use Rattle.sym_command.specs.Working.{DifferInWork, trace_otherwise, make_otherwise, map_otherwise, worked}

-- A form whose reports are all this text.
abbrev pub saying : List ℕ → FormTexts
saying text = record { begin = λ heads. text; row = λ heads row. []; end = λ heads. [] }

-- Each row twice, side by side.
abbrev pub doubled : Row → Row
doubled row = row ++ row

-- A call with these arguments. It is handed three forms, two of them of one name, and its gate shows
-- each row doubled.
abbrev pub call : List (List ℕ) → Asked
call words = asks words
    (record { name = codes "csv"; texts = saying (codes "a") }
    ∷ record { name = codes "table"; texts = saying (codes "b") }
    ∷ record { name = codes "table"; texts = saying (codes "c") }
    ∷ []) doubled

-- The same without forms.
abbrev pub formless : List (List ℕ) → Asked
formless words = asks words [] doubled

-- What a call asks for: a command, which reads a script of this name, if it has one, and files of
-- these names. Rows of files of at most so many bytes are shown so, and the first record has this
-- number.
record Asks (asked : Asked) (command : Command) (script_name : Option (List ℕ)) (file_names : List (List ℕ)) (max_bytes : ℕ) (shown : Row → Row)
    (first : ℕ) : Type 0 where
  asks : command_of asked ≡ Some command
  names : names_of (command_of asked) ≡ record { script = script_name; files = file_names }
  rules : file_rules asked command ≡ record { max_bytes = max_bytes; shown = shown }
  first_is : first_no command ≡ first

-- ---- `run --form table --max-bytes 9 s f g`
abbrev pub run : Run
run = record {
  form = codes "table";
  options = record { chunk = 3072; limit = 16; workers = 4; max_bytes = 9 };
  watch = false;
  script = codes "s";
  files = codes "f" ∷ codes "g" ∷ [];
}

abbrev pub run_call : Asked
run_call = call (codes "run" ∷ codes "--form" ∷ codes "table" ∷ codes "--max-bytes" ∷ codes "9" ∷ codes "s" ∷ codes "f" ∷ codes "g" ∷ [])

runs : command_of run_call ≡ Some (Runs run)
unfolding command_in run_of matched run_app run_found run_options options_found files_found number_of clap_on_literals
runs = refl

a_run : Asks run_call (Runs run) (Some (codes "s")) (codes "f" ∷ codes "g" ∷ []) 9 doubled 1
a_run = record { asks = runs; names = ap (λ c. names_of c) runs; rules = refl; first_is = refl }

-- ---- `trace --every 20 --max-bytes 9 s f g`: its rows are read as they are
abbrev pub trace : Trace
trace = record {
  form = codes "table";
  every = 20;
  options = record { chunk = 3072; limit = 16; workers = 4; max_bytes = 9 };
  script = codes "s";
  files = codes "f" ∷ codes "g" ∷ [];
}

abbrev pub trace_call : Asked
trace_call = call (codes "trace" ∷ codes "--every" ∷ codes "20" ∷ codes "--max-bytes" ∷ codes "9" ∷ codes "s" ∷ codes "f" ∷ codes "g" ∷ [])

traces : command_of trace_call ≡ Some (Traces trace)
unfolding command_in trace_of matched trace_app trace_found run_options options_found files_found number_of clap_on_literals
traces = refl

a_trace : Asks trace_call (Traces trace) (Some (codes "s")) (codes "f" ∷ codes "g" ∷ []) 9 (λ row. row) 1
a_trace = record { asks = traces; names = ap (λ c. names_of c) traces; rules = refl; first_is = refl }

-- ---- `check s`: it reads no files, and needs no form
abbrev pub check : Check
check = record { script = codes "s"; print = false }

abbrev pub check_call : Asked
check_call = formless (codes "check" ∷ codes "s" ∷ [])

checks : command_of check_call ≡ Some (Checks check)
unfolding command_in check_of matched check_app check_found clap_on_literals
checks = refl

a_check : Asks check_call (Checks check) (Some (codes "s")) [] 67108864 doubled 1
a_check = record { asks = checks; names = ap (λ c. names_of c) checks; rules = refl; first_is = refl }

-- ---- `make 5 1`: the script and the log are its own
abbrev pub make : Make
make = record {
  options = record { chunk = 3072; limit = 16; workers = 4; max_bytes = 67108864 };
  records = 5;
  seed = 1;
}

abbrev pub make_call : Asked
make_call = formless (codes "make" ∷ codes "5" ∷ codes "1" ∷ [])

makes : command_of make_call ≡ Some (Makes make)
unfolding command_in make_of matched make_app make_found options_found number_of clap_on_literals
makes = refl

a_make : Asks make_call (Makes make) None [] 67108864 doubled 1
a_make = record { asks = makes; names = ap (λ c. names_of c) makes; rules = refl; first_is = refl }

-- ---- `map --first 1001 --limit 7 --max-bytes 9 s f g`
abbrev pub part : Map
part = record {
  first = 1001;
  options = record { chunk = 3072; limit = 7; workers = 4; max_bytes = 9 };
  script = codes "s";
  files = codes "f" ∷ codes "g" ∷ [];
}

abbrev pub map_call : Asked
map_call = formless (codes "map" ∷ codes "--first" ∷ codes "1001" ∷ codes "--limit" ∷ codes "7" ∷ codes "--max-bytes" ∷ codes "9" ∷ codes "s" ∷ codes "f" ∷ codes "g" ∷ [])

maps : command_of map_call ≡ Some (Maps part)
unfolding command_in map_of matched map_app map_found run_options options_found files_found number_of clap_on_literals
maps = refl

a_map : Asks map_call (Maps part) (Some (codes "s")) (codes "f" ∷ codes "g" ∷ []) 9 doubled 1001
a_map = record { asks = maps; names = ap (λ c. names_of c) maps; rules = refl; first_is = refl }

-- ---- `reduce --max-bytes 9 s f g`: its files have no rows
abbrev pub reduce : Reduce
reduce = record {
  form = codes "table";
  max_bytes = 9;
  script = codes "s";
  files = codes "f" ∷ codes "g" ∷ [];
}

abbrev pub reduce_call : Asked
reduce_call = call (codes "reduce" ∷ codes "--max-bytes" ∷ codes "9" ∷ codes "s" ∷ codes "f" ∷ codes "g" ∷ [])

reduces : command_of reduce_call ≡ Some (Reduces reduce)
unfolding command_in reduce_of matched reduce_app reduce_found files_found number_of clap_on_literals
reduces = refl

a_reduce : Asks reduce_call (Reduces reduce) (Some (codes "s")) (codes "f" ∷ codes "g" ∷ []) 9 doubled 1
a_reduce = record { asks = reduces; names = ap (λ c. names_of c) reduces; rules = refl; first_is = refl }

-- ---- `join --limit 7 --max-bytes 9 s f g`: its files have no rows, and no form is handed in
abbrev pub join : Join
join = record {
  limit = 7;
  max_bytes = 9;
  script = codes "s";
  files = codes "f" ∷ codes "g" ∷ [];
}

abbrev pub join_call : Asked
join_call = formless (codes "join" ∷ codes "--limit" ∷ codes "7" ∷ codes "--max-bytes" ∷ codes "9" ∷ codes "s" ∷ codes "f" ∷ codes "g" ∷ [])

joins : command_of join_call ≡ Some (Joins join)
unfolding command_in join_of matched join_app join_found files_found number_of clap_on_literals
joins = refl

a_join : Asks join_call (Joins join) (Some (codes "s")) (codes "f" ∷ codes "g" ∷ []) 9 doubled 1
a_join = record { asks = joins; names = ap (λ c. names_of c) joins; rules = refl; first_is = refl }

-- ---- the names by which a line speaks of files: those that are read, and that of the log that is made
run_shown : shown_names (command_of run_call) ≡ record { script = Some (codes "s"); files = codes "f" ∷ codes "g" ∷ [] }
run_shown = ap (λ c. shown_names c) runs

trace_shown : shown_names (command_of trace_call) ≡ record { script = Some (codes "s"); files = codes "f" ∷ codes "g" ∷ [] }
trace_shown = ap (λ c. shown_names c) traces

check_shown : shown_names (command_of check_call) ≡ record { script = Some (codes "s"); files = [] }
check_shown = ap (λ c. shown_names c) checks

make_shown : shown_names (command_of make_call) ≡ record { script = None; files = codes "made" ∷ [] }
make_shown = ap (λ c. shown_names c) makes

map_shown : shown_names (command_of map_call) ≡ record { script = Some (codes "s"); files = codes "f" ∷ codes "g" ∷ [] }
map_shown = ap (λ c. shown_names c) maps

reduce_shown : shown_names (command_of reduce_call) ≡ record { script = Some (codes "s"); files = codes "f" ∷ codes "g" ∷ [] }
reduce_shown = ap (λ c. shown_names c) reduces

join_shown : shown_names (command_of join_call) ≡ record { script = Some (codes "s"); files = codes "f" ∷ codes "g" ∷ [] }
join_shown = ap (λ c. shown_names c) joins

-- ---- `run`, `trace` and `reduce` with `--form csv s f`: the report is in that form, and not in the default one

-- A call that is handed the form `csv` alone.
abbrev with_csv : List (List ℕ) → Asked
with_csv words = asks words (record { name = codes "csv"; texts = saying (codes "a") } ∷ []) doubled

abbrev pub csv_run : Run
csv_run = record run { form = codes "csv"; options = record run.options { max_bytes = 67108864 }; files = codes "f" ∷ [] }

abbrev pub csv_run_words : List (List ℕ)
csv_run_words = codes "run" ∷ codes "--form" ∷ codes "csv" ∷ codes "s" ∷ codes "f" ∷ []

csv_runs : command_of (call csv_run_words) ≡ Some (Runs csv_run)
unfolding command_in run_of matched run_app run_found run_options options_found files_found number_of clap_on_literals
csv_runs = refl

csv_alone_runs : command_of (with_csv csv_run_words) ≡ Some (Runs csv_run)
unfolding command_in run_of matched run_app run_found run_options options_found files_found number_of clap_on_literals
csv_alone_runs = refl

abbrev pub csv_trace : Trace
csv_trace = record trace { form = codes "csv"; every = 1; options = record trace.options { max_bytes = 67108864 }; files = codes "f" ∷ [] }

abbrev pub csv_trace_words : List (List ℕ)
csv_trace_words = codes "trace" ∷ codes "--form" ∷ codes "csv" ∷ codes "s" ∷ codes "f" ∷ []

csv_traces : command_of (call csv_trace_words) ≡ Some (Traces csv_trace)
unfolding command_in trace_of matched trace_app trace_found run_options options_found files_found number_of clap_on_literals
csv_traces = refl

csv_alone_traces : command_of (with_csv csv_trace_words) ≡ Some (Traces csv_trace)
unfolding command_in trace_of matched trace_app trace_found run_options options_found files_found number_of clap_on_literals
csv_alone_traces = refl

abbrev pub csv_reduce : Reduce
csv_reduce = record reduce { form = codes "csv"; max_bytes = 67108864; files = codes "f" ∷ [] }

abbrev pub csv_reduce_words : List (List ℕ)
csv_reduce_words = codes "reduce" ∷ codes "--form" ∷ codes "csv" ∷ codes "s" ∷ codes "f" ∷ []

csv_reduces : command_of (call csv_reduce_words) ≡ Some (Reduces csv_reduce)
unfolding command_in reduce_of matched reduce_app reduce_found files_found number_of clap_on_literals
csv_reduces = refl

csv_alone_reduces : command_of (with_csv csv_reduce_words) ≡ Some (Reduces csv_reduce)
unfolding command_in reduce_of matched reduce_app reduce_found files_found number_of clap_on_literals
csv_alone_reduces = refl

-- ---- calls of no command, which read nothing

-- A run, a trace and a reduction whose form isn't handed in.
no_run : command_of (formless (codes "run" ∷ codes "s" ∷ codes "f" ∷ [])) ≡ None
unfolding command_in run_of matched run_app run_found run_options options_found files_found number_of clap_on_literals
no_run = refl

no_trace : command_of (formless (codes "trace" ∷ codes "s" ∷ codes "f" ∷ [])) ≡ None
unfolding command_in trace_of matched trace_app trace_found run_options options_found files_found number_of clap_on_literals
no_trace = refl

no_reduction : command_of (formless (codes "reduce" ∷ codes "s" ∷ codes "f" ∷ [])) ≡ None
unfolding command_in reduce_of matched reduce_app reduce_found files_found number_of clap_on_literals
no_reduction = refl

other_form : command_of (call (codes "run" ∷ codes "--form" ∷ codes "tables" ∷ codes "s" ∷ codes "f" ∷ [])) ≡ None
unfolding command_in run_of matched run_app run_found run_options options_found files_found number_of clap_on_literals
other_form = refl

other_trace_form : command_of (call (codes "trace" ∷ codes "--form" ∷ codes "tables" ∷ codes "s" ∷ codes "f" ∷ [])) ≡ None
unfolding command_in trace_of matched trace_app trace_found run_options options_found files_found number_of clap_on_literals
other_trace_form = refl

other_reduce_form : command_of (call (codes "reduce" ∷ codes "--form" ∷ codes "tables" ∷ codes "s" ∷ codes "f" ∷ [])) ≡ None
unfolding command_in reduce_of matched reduce_app reduce_found files_found number_of clap_on_literals
other_reduce_form = refl

-- No arguments, and a word that names no command.
no_words : command_of (call []) ≡ None
unfolding command_in
no_words = refl

no_name : command_of (call (codes "runs" ∷ codes "s" ∷ codes "f" ∷ [])) ≡ None
unfolding command_in
no_name = refl

nothing_read : names_of None ≡ record { script = None; files = [] }
nothing_read = refl

nothing_shown : shown_names None ≡ record { script = None; files = [] }
nothing_shown = refl

-- ---- calls that differ in work alone

-- `trace --every 20 --workers 2 --max-bytes 9 s f g`
abbrev other_trace : Asked
other_trace = call (codes "trace" ∷ codes "--every" ∷ codes "20" ∷ codes "--workers" ∷ codes "2" ∷ codes "--max-bytes" ∷ codes "9" ∷ codes "s" ∷ codes "f" ∷ codes "g" ∷ [])

traces_otherwise : command_of other_trace ≡ Some (Traces (record trace { options = worked trace.options 3072 16 2 }))
unfolding command_in trace_of matched trace_app trace_found run_options options_found files_found number_of clap_on_literals
traces_otherwise = refl

traces_differ : DifferInWork trace_call other_trace
traces_differ = record {
  forms = refl;
  shown = refl;
  command = Traces trace;
  asks = traces;
  other_command = Traces (record trace { options = worked trace.options 3072 16 2 });
  other_asks = traces_otherwise;
  otherwise = trace_otherwise trace 3072 16 2;
}

-- `make --chunk 7 5 1`
abbrev other_make : Asked
other_make = formless (codes "make" ∷ codes "--chunk" ∷ codes "7" ∷ codes "5" ∷ codes "1" ∷ [])

makes_otherwise : command_of other_make ≡ Some (Makes (record make { options = worked make.options 7 16 4 }))
unfolding command_in make_of matched make_app make_found options_found number_of clap_on_literals
makes_otherwise = refl

makings_differ : DifferInWork make_call other_make
makings_differ = record {
  forms = refl;
  shown = refl;
  command = Makes make;
  asks = makes;
  other_command = Makes (record make { options = worked make.options 7 16 4 });
  other_asks = makes_otherwise;
  otherwise = make_otherwise make 7 16 4;
}

-- `map --first 1001 --chunk 2 --limit 7 --workers 64 --max-bytes 9 s f g`
abbrev other_map : Asked
other_map = formless (codes "map" ∷ codes "--first" ∷ codes "1001" ∷ codes "--chunk" ∷ codes "2" ∷ codes "--limit" ∷ codes "7" ∷ codes "--workers" ∷ codes "64" ∷ codes "--max-bytes" ∷ codes "9" ∷ codes "s" ∷ codes "f" ∷ codes "g" ∷ [])

maps_otherwise : command_of other_map ≡ Some (Maps (record part { options = worked part.options 2 7 64 }))
unfolding command_in map_of matched map_app map_found run_options options_found files_found number_of clap_on_literals
maps_otherwise = refl

maps_differ : DifferInWork map_call other_map
maps_differ = record {
  forms = refl;
  shown = refl;
  command = Maps part;
  asks = maps;
  other_command = Maps (record part { options = worked part.options 2 7 64 });
  other_asks = maps_otherwise;
  otherwise = map_otherwise part 2 64;
}
