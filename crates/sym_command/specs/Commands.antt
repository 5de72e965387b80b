-- Commands: what the arguments after the program's name ask for.
-- Commands, and what their numbers may be, are this project's profile.
use Rattle.std.specs.Prelude.{ℕ, nat_le, Bool, true, false, if◌then◌else◌, List, [], ◌∷◌, length, map, Option, None, Some, is_some, option_and_then, slice_get}
use Rattle.std.specs.Option.{option_map, option_map_or, unwrap_or}
use Rattle.std.specs.Str.{bytes_eq}
use Rattle.clap.specs.Words.{Row, first_of, all_of}
use Rattle.sym_base.specs.declared.limits.TheConstants as limit
use Rattle.sym_table.specs.Reading.{Row as FileRow}
use Rattle.sym_files.specs.FileRecords.{FileRules, plain_rules, rules_of}
use Rattle.sym_files.specs.declared.options.Options.{Options}
use Rattle.sym_command.specs.declared.place.Place.{Place}
use Rattle.sym_command.specs.declared.place.Place.TheVariants as place
use Rattle.sym_command.specs.declared.numbers.NumberOption.{NumberOption}
use Rattle.sym_command.specs.declared.numbers.NumberRange.{NumberRange}
use Rattle.sym_command.specs.declared.arguments.TheConstants as own
use Rattle.sym_command.specs.CommandLines.{run_app, trace_app, check_app, make_app, map_app, reduce_app, join_app, matched}
use Rattle.sym_command.specs.Numbers.{number_in_range, option_number}
use Rattle.sym_report.specs.Forms.{FormTexts, form_named}

-- A form of reports: what it is called, and its texts.
pub record Form : Type 0 where
  pub name : List ℕ
  pub texts : FormTexts

-- The same of forms of any type, by what the type says of its values.
unfoldable pub forms_of : {F : Type 0} → (F → List ℕ) → (F → FormTexts) → List F → List Form
forms_of called texts forms = map (λ form. record { name = called form; texts = texts form }) forms

-- What a call is asked: its arguments, those after the program's name, the forms that it is handed,
-- and what its gate shows each row of the files of records as.
pub record Asked : Type 0 where
  pub words : List (List ℕ)
  pub forms : List Form
  pub shown : FileRow → FileRow

abbrev pub asks : List (List ℕ) → List Form → (FileRow → FileRow) → Asked
asks words forms shown = record { words = words; forms = forms; shown = shown }

-- `run`: the form of the report, how files are cut and worked on, whether observers are told, the
-- script and the files.
pub record Run : Type 0 where
  pub form : List ℕ
  pub options : Options
  pub watch : Bool
  pub script : List ℕ
  pub files : List (List ℕ)

-- `trace`: the form of the report, which records' rows are shown, those whose numbers `every`
-- divides, how files are cut and worked on, the script and the files.
pub record Trace : Type 0 where
  pub form : List ℕ
  pub every : ℕ
  pub options : Options
  pub script : List ℕ
  pub files : List (List ℕ)

-- `check`: the script, and whether it is printed.
pub record Check : Type 0 where
  pub script : List ℕ
  pub print : Bool

-- `make`: how the log is cut and worked on, how many records it has, and what it is drawn from.
pub record Make : Type 0 where
  pub options : Options
  pub records : ℕ
  pub seed : ℕ

-- `map`: the number of the first record, how files are cut and worked on, the script and the files.
pub record Map : Type 0 where
  pub first : ℕ
  pub options : Options
  pub script : List ℕ
  pub files : List (List ℕ)

-- `reduce`: the form of the report, the most bytes of each file, the script, and the files of saved
-- runs.
pub record Reduce : Type 0 where
  pub form : List ℕ
  pub max_bytes : ℕ
  pub script : List ℕ
  pub files : List (List ℕ)

-- `join`: the path limit, the most bytes of each file, the script, and the files of saved runs.
pub record Join : Type 0 where
  pub limit : ℕ
  pub max_bytes : ℕ
  pub script : List ℕ
  pub files : List (List ℕ)

-- What is asked for.
pub data Command : Type 0 where
  Runs : Run → Command
  Traces : Trace → Command
  Checks : Check → Command
  Makes : Make → Command
  Maps : Map → Command
  Reduces : Reduce → Command
  Joins : Join → Command

infixl 10 ◌>>=◌
abbrev pub ◌>>=◌ : {A B : Type 0} → Option A → (A → Option B) → Option B
found >>= next = option_and_then next found

-- The number of an option, by what was found.
abbrev pub number_found : NumberOption → List ℕ → List Row → Option ℕ
number_found option name rows = option_number option (first_of name rows)

-- The number of a word, by what was found.
abbrev pub word_number : NumberRange → List ℕ → List Row → Option ℕ
word_number range name rows = option_and_then (number_in_range range) (first_of name rows)

abbrev pub is_given : Option (List ℕ) → Bool
is_given None = false
is_given (Some text) = bytes_eq text own.GIVEN.now

-- Whether a flag is given, by what was found.
abbrev pub flag_found : List ℕ → List Row → Bool
flag_found name rows = is_given (first_of name rows)

-- How files are cut and worked on, each with at most so many bytes.
unfoldable pub options_found : List Row → ℕ → Option Options
options_found rows max_bytes = do
  chunk ← number_found own.CHUNKS own.CHUNK_NAME.now rows
  limit ← number_found own.LIMITS own.LIMIT_NAME.now rows
  workers ← number_found own.WORKERS own.WORKERS_NAME.now rows
  Some (record { chunk = chunk; limit = limit; workers = workers; max_bytes = max_bytes })

-- The options of a command that reads files of records.
unfoldable pub run_options : List Row → Option Options
run_options rows = do
  max_bytes ← number_found own.MAX_BYTES own.MAX_BYTES_NAME.now rows
  options_found rows max_bytes

-- The form of the report.
abbrev pub form_found : List Row → List ℕ
form_found rows = unwrap_or (first_of own.FORM_NAME.now rows) own.FORM_DEFAULT.now

-- No more files than a run takes.
abbrev pub few_files : List (List ℕ) → Option (List (List ℕ))
few_files files = if nat_le (length files) limit.FILES_MAX then Some files else None

-- The names of the files of records.
unfoldable pub files_found : List Row → Option (List (List ℕ))
files_found rows = option_and_then few_files (all_of own.FILES_NAME.now rows)

-- The run that was found.
unfoldable pub run_found : List Row → Option Run
run_found rows = do
  options ← run_options rows
  script ← first_of own.SCRIPT_NAME.now rows
  files ← files_found rows
  Some (record {
    form = form_found rows;
    options = options;
    watch = flag_found own.WATCH_NAME.now rows;
    script = script;
    files = files;
  })

-- The trace that was found.
unfoldable pub trace_found : List Row → Option Trace
trace_found rows = do
  options ← run_options rows
  every ← number_found own.EVERY own.EVERY_NAME.now rows
  script ← first_of own.SCRIPT_NAME.now rows
  files ← files_found rows
  Some (record {
    form = form_found rows;
    every = every;
    options = options;
    script = script;
    files = files;
  })

-- The check that was found.
unfoldable pub check_found : List Row → Option Check
check_found rows = do
  script ← first_of own.SCRIPT_NAME.now rows
  Some (record { script = script; print = flag_found own.PRINT_NAME.now rows })

-- The making that was found.
unfoldable pub make_found : List Row → Option Make
make_found rows = do
  options ← options_found rows limit.FILE_MAX_DEFAULT
  records ← word_number own.RECORDS own.RECORDS_NAME.now rows
  seed ← word_number own.SEEDS own.SEED_NAME.now rows
  Some (record { options = options; records = records; seed = seed })

-- The summary that was found.
unfoldable pub map_found : List Row → Option Map
map_found rows = do
  first ← number_found own.FIRSTS own.FIRST_NAME.now rows
  options ← run_options rows
  script ← first_of own.SCRIPT_NAME.now rows
  files ← files_found rows
  Some (record { first = first; options = options; script = script; files = files })

-- The report on saved runs that was found.
unfoldable pub reduce_found : List Row → Option Reduce
reduce_found rows = do
  max_bytes ← number_found own.MAX_BYTES own.MAX_BYTES_NAME.now rows
  script ← first_of own.SCRIPT_NAME.now rows
  files ← files_found rows
  Some (record {
    form = form_found rows;
    max_bytes = max_bytes;
    script = script;
    files = files;
  })

-- The join of saved runs that was found.
unfoldable pub join_found : List Row → Option Join
join_found rows = do
  limit ← number_found own.LIMITS own.LIMIT_NAME.now rows
  max_bytes ← number_found own.MAX_BYTES own.MAX_BYTES_NAME.now rows
  script ← first_of own.SCRIPT_NAME.now rows
  files ← files_found rows
  Some (record { limit = limit; max_bytes = max_bytes; script = script; files = files })

-- What words ask for by the command that is the first of them.
unfoldable pub run_of : List (List ℕ) → Option Run
run_of words = option_and_then run_found (matched run_app words)

unfoldable pub trace_of : List (List ℕ) → Option Trace
trace_of words = option_and_then trace_found (matched trace_app words)

unfoldable pub check_of : List (List ℕ) → Option Check
check_of words = option_and_then check_found (matched check_app words)

unfoldable pub make_of : List (List ℕ) → Option Make
make_of words = option_and_then make_found (matched make_app words)

unfoldable pub map_of : List (List ℕ) → Option Map
map_of words = option_and_then map_found (matched map_app words)

unfoldable pub reduce_of : List (List ℕ) → Option Reduce
reduce_of words = option_and_then reduce_found (matched reduce_app words)

unfoldable pub join_of : List (List ℕ) → Option Join
join_of words = option_and_then join_found (matched join_app words)

-- The same as a command, by its name.
abbrev pub command_by : List ℕ → List (List ℕ) → Option Command
command_by name words =
    if bytes_eq name own.RUN_NAME.now then option_map (λ run. Runs run) (run_of words)
    else if bytes_eq name own.TRACE_NAME.now
    then option_map (λ trace. Traces trace) (trace_of words)
    else if bytes_eq name own.CHECK_NAME.now then option_map (λ check. Checks check) (check_of words)
    else if bytes_eq name own.MAKE_NAME.now then option_map (λ make. Makes make) (make_of words)
    else if bytes_eq name own.MAP_NAME.now then option_map (λ part. Maps part) (map_of words)
    else if bytes_eq name own.REDUCE_NAME.now then
    option_map (λ reduce. Reduces reduce) (reduce_of words)
    else if bytes_eq name own.JOIN_NAME.now then option_map (λ join. Joins join) (join_of words)
    else None

-- The command of a list of words.
unfoldable pub command_in : List (List ℕ) → Option Command
command_in [] = None
command_in (name ∷ rest) = command_by name (name ∷ rest)

-- The first form of this name, if there is one.
abbrev pub form_of : List Form → List ℕ → Option Form
form_of forms name = form_named (λ (form : Form). form.name) name forms

abbrev pub no_texts : FormTexts
no_texts = record { begin = λ heads. []; row = λ heads row. []; end = λ heads. [] }

-- Its texts; none if there is no such form.
abbrev pub texts_of : List Form → List ℕ → FormTexts
texts_of forms name = option_map_or (λ (form : Form). form.texts) (form_of forms name) no_texts

-- The command can be carried out with these forms: the form that it names is one of them.
abbrev pub is_handed : List Form → Command → Bool
is_handed forms (Runs run) = is_some (form_of forms run.form)
is_handed forms (Traces trace) = is_some (form_of forms trace.form)
is_handed forms (Checks check) = true
is_handed forms (Makes make) = true
is_handed forms (Maps part) = true
is_handed forms (Reduces reduce) = is_some (form_of forms reduce.form)
is_handed forms (Joins join) = true

abbrev pub handed : List Form → Option Command → Option Command
handed forms None = None
handed forms (Some command) = if is_handed forms command then Some command else None

-- The command that is asked for, if there is one.
abbrev pub command_of : Asked → Option Command
command_of asked = handed asked.forms (command_in asked.words)

-- The names of the files of the store that a command reads: of its script, if it has one, and of
-- its files of records, in order.
pub record FileNames : Type 0 where
  pub script : Option (List ℕ)
  pub files : List (List ℕ)

abbrev pub names_of : Option Command → FileNames
names_of None = record { script = None; files = [] }
names_of (Some (Runs run)) = record { script = Some run.script; files = run.files }
names_of (Some (Traces trace)) = record { script = Some trace.script; files = trace.files }
names_of (Some (Checks check)) = record { script = Some check.script; files = [] }
names_of (Some (Makes make)) = record { script = None; files = [] }
names_of (Some (Maps part)) = record { script = Some part.script; files = part.files }
names_of (Some (Reduces reduce)) = record { script = Some reduce.script; files = reduce.files }
names_of (Some (Joins join)) = record { script = Some join.script; files = join.files }

-- The names by which a line speaks of a command's files: the same, and that of the log that is made.
abbrev pub shown_names : Option Command → FileNames
shown_names None = record { script = None; files = [] }
shown_names (Some (Runs run)) = record { script = Some run.script; files = run.files }
shown_names (Some (Traces trace)) = record { script = Some trace.script; files = trace.files }
shown_names (Some (Checks check)) = record { script = Some check.script; files = [] }
shown_names (Some (Makes make)) = record { script = None; files = own.MADE_NAME.now ∷ [] }
shown_names (Some (Maps part)) = record { script = Some part.script; files = part.files }
shown_names (Some (Reduces reduce)) = record { script = Some reduce.script; files = reduce.files }
shown_names (Some (Joins join)) = record { script = Some join.script; files = join.files }

-- The name of the file at this place.
abbrev pub name_at : FileNames → Place → Option (List ℕ)
name_at names place.Script = names.script
name_at names (place.File number) = slice_get names.files number

-- The same, empty if there is no such file.
abbrev pub file_name : FileNames → Place → List ℕ
file_name names at = unwrap_or (name_at names at) []

-- How a command reads its files of records: at most so many bytes of each, and each row but the
-- header as it is shown. A trace doesn't use the gate: its rows are read as they are.
abbrev pub file_rules : Asked → Command → FileRules
file_rules asked (Runs run) = rules_of run.options.max_bytes asked.shown
file_rules asked (Traces trace) = plain_rules trace.options.max_bytes
file_rules asked (Checks check) = rules_of limit.FILE_MAX_DEFAULT asked.shown
file_rules asked (Makes make) = rules_of make.options.max_bytes asked.shown
file_rules asked (Maps part) = rules_of part.options.max_bytes asked.shown
file_rules asked (Reduces reduce) = rules_of reduce.max_bytes asked.shown
file_rules asked (Joins join) = rules_of join.max_bytes asked.shown

-- The files of the command have records; those of `reduce` and `join` have saved runs.
abbrev pub ReadsRecords : Command → Type 0
ReadsRecords (Runs run) = Unit {0}
ReadsRecords (Traces trace) = Unit {0}
ReadsRecords (Checks check) = Unit {0}
ReadsRecords (Makes make) = Unit {0}
ReadsRecords (Maps part) = Unit {0}
ReadsRecords (Reduces reduce) = ⊥
ReadsRecords (Joins join) = ⊥

-- The same where there may be no command.
abbrev pub ReadsNoRuns : Option Command → Type 0
ReadsNoRuns None = Unit {0}
ReadsNoRuns (Some command) = ReadsRecords command

-- The number of the first record of a command's files.
abbrev pub first_no : Command → ℕ
first_no (Runs run) = 1
first_no (Traces trace) = 1
first_no (Checks check) = 1
first_no (Makes make) = 1
first_no (Maps part) = part.first
first_no (Reduces reduce) = 1
first_no (Joins join) = 1
