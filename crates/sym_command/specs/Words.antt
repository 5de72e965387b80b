-- What a contract sees of the arguments that were read.
use Rattle.std.specs.Prelude.{◌≤◌, List, [], ◌∷◌, ℕ, map, length}
use Rattle.std.specs.Option.{option_map}
use Rattle.std.specs.String.{string_bytes}
use Rattle.sym_base.specs.declared.limits.TheConstants as limit
use Rattle.sym_files.specs.Options.{InRange}
use Rattle.sym_command.specs.declared.arguments.TheConstants as own
use Rattle.sym_command.specs.declared.commands.Run.{Run as RunRead}
use Rattle.sym_command.specs.declared.commands.Trace.{Trace as TraceRead}
use Rattle.sym_command.specs.declared.commands.Check.{Check as CheckRead}
use Rattle.sym_command.specs.declared.commands.Make.{Make as MakeRead}
use Rattle.sym_command.specs.declared.commands.Map.{Map as MapRead}
use Rattle.sym_command.specs.declared.commands.Reduce.{Reduce as ReduceRead}
use Rattle.sym_command.specs.declared.commands.Join.{Join as JoinRead}
use Rattle.sym_command.specs.declared.commands.Command.{Command as CommandRead}
use Rattle.sym_command.specs.declared.commands.Command.TheVariants as read
use Rattle.sym_command.specs.declared.commands.NamedFiles.{NamedFiles}
use Rattle.sym_command.specs.declared.commands.NamedFiles.TheVariants as named
use Rattle.sym_command.specs.declared.commands.FileNames.{FileNames as NamesRead}
use Rattle.sym_command.specs.Commands.{Run, Trace, Check, Make, Map, Reduce, Join, Command, Runs, Traces, Checks, Makes, Maps, Reduces, Joins, FileNames}

abbrev pub run_seen : RunRead → Run
run_seen run = record {
  form = run.form.now;
  options = run.options;
  watch = run.watch;
  script = run.script.now;
  files = map string_bytes run.files.items;
}

abbrev pub trace_seen : TraceRead → Trace
trace_seen trace = record {
  form = trace.form.now;
  every = trace.every;
  options = trace.options;
  script = trace.script.now;
  files = map string_bytes trace.files.items;
}

abbrev pub check_seen : CheckRead → Check
check_seen check = record { script = check.script.now; print = check.print }

abbrev pub make_seen : MakeRead → Make
make_seen make = record { options = make.options; records = make.records; seed = make.seed }

abbrev pub map_seen : MapRead → Map
map_seen part = record {
  first = part.first;
  options = part.options;
  script = part.script.now;
  files = map string_bytes part.files.items;
}

abbrev pub reduce_seen : ReduceRead → Reduce
reduce_seen reduce = record {
  form = reduce.form.now;
  max_bytes = reduce.max_bytes;
  script = reduce.script.now;
  files = map string_bytes reduce.files.items;
}

abbrev pub join_seen : JoinRead → Join
join_seen join = record {
  limit = join.limit;
  max_bytes = join.max_bytes;
  script = join.script.now;
  files = map string_bytes join.files.items;
}

abbrev pub command_seen : CommandRead → Command
command_seen (read.Run run) = Runs (run_seen run)
command_seen (read.Trace trace) = Traces (trace_seen trace)
command_seen (read.Check check) = Checks (check_seen check)
command_seen (read.Make make) = Makes (make_seen make)
command_seen (read.Map part) = Maps (map_seen part)
command_seen (read.Reduce reduce) = Reduces (reduce_seen reduce)
command_seen (read.Join join) = Joins (join_seen join)

abbrev pub files_seen : NamedFiles → List (List ℕ)
files_seen named.None = []
files_seen (named.Given files) = map string_bytes files.now
files_seen named.Made = own.MADE_NAME.now ∷ []

abbrev pub names_seen : NamesRead → FileNames
names_seen names = record {
  script = option_map (λ script. script.now) names.script;
  files = files_seen names.files;
}

-- The options are in their ranges, and the files aren't too many.
pub record IsRun (run : RunRead) : Type 0 where
  pub range : InRange run.options
  pub few : length run.files.items ≤ limit.FILES_MAX

-- The same, and some number is shown.
pub record IsTrace (trace : TraceRead) : Type 0 where
  pub range : InRange trace.options
  pub few : length trace.files.items ≤ limit.FILES_MAX
  pub some : 1 ≤ trace.every

-- The number of the first record and the options are in their ranges, and the files aren't too many.
pub record IsMap (part : MapRead) : Type 0 where
  pub some : 1 ≤ part.first
  pub first : part.first ≤ own.FIRST_MAX
  pub range : InRange part.options
  pub few : length part.files.items ≤ limit.FILES_MAX

-- The size of a file is in its range, and the files aren't too many.
pub record IsReduce (reduce : ReduceRead) : Type 0 where
  pub size : reduce.max_bytes ≤ limit.FILE_MAX
  pub few : length reduce.files.items ≤ limit.FILES_MAX

-- The same of `join`.
pub record IsJoin (join : JoinRead) : Type 0 where
  pub size : join.max_bytes ≤ limit.FILE_MAX
  pub few : length join.files.items ≤ limit.FILES_MAX

abbrev pub IsInRange : CommandRead → Type 0
IsInRange (read.Run run) = IsRun run
IsInRange (read.Trace trace) = IsTrace trace
IsInRange (read.Check check) = Unit {0}
IsInRange (read.Make make) = InRange make.options
IsInRange (read.Map part) = IsMap part
IsInRange (read.Reduce reduce) = IsReduce reduce
IsInRange (read.Join join) = IsJoin join
