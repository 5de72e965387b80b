-- Options that say how records are worked on. No end depends on them, but for the limits of `map`
-- and `join`.
use Rattle.std.specs.Prelude.{◌≡◌, ℕ, Bool, Some}
use Rattle.sym_files.specs.declared.options.Options.{Options}
use Rattle.sym_command.specs.Commands.{Asked, Command, Run, Runs, Trace, Traces, Check, Checks, Make, Makes, Map, Maps, Reduce, Reduces, Join, Joins, command_of}

-- Options with this chunk, limit and number of workers. The most bytes of a file stay as they were.
abbrev pub worked : Options → ℕ → ℕ → ℕ → Options
worked options chunk limit workers = record {
  chunk = chunk;
  limit = limit;
  workers = workers;
  max_bytes = options.max_bytes;
}

-- The second command is the first with any `--chunk`, `--limit`, `--workers` and `--watch`. `run`
-- alone has `--watch`. The limits of `map` and `join` stay, since their texts are tight for them.
-- `check` and `reduce` have none of these options.
pub data IsWorkedOtherwise : Command → Command → Type 0 where
  run_otherwise : (run : Run) (chunk limit workers : ℕ) (watch : Bool)
      → IsWorkedOtherwise (Runs run) (Runs (record run {
        options = worked run.options chunk limit workers;
        watch = watch;
      }))
  trace_otherwise : (trace : Trace) (chunk limit workers : ℕ)
      → IsWorkedOtherwise (Traces trace) (Traces (record trace {
        options = worked trace.options chunk limit workers;
      }))
  check_likewise : (check : Check) → IsWorkedOtherwise (Checks check) (Checks check)
  make_otherwise : (make : Make) (chunk limit workers : ℕ)
      → IsWorkedOtherwise (Makes make) (Makes (record make {
        options = worked make.options chunk limit workers;
      }))
  map_otherwise : (part : Map) (chunk workers : ℕ)
      → IsWorkedOtherwise (Maps part) (Maps (record part {
        options = worked part.options chunk part.options.limit workers;
      }))
  reduce_likewise : (reduce : Reduce) → IsWorkedOtherwise (Reduces reduce) (Reduces reduce)
  join_likewise : (join : Join) → IsWorkedOtherwise (Joins join) (Joins join)

-- Two calls that differ in these options alone.
pub record DifferInWork (one other : Asked) : Type 0 where
  -- They are handed the same forms, and their gates show each row as the same.
  pub forms : one.forms ≡ other.forms
  pub shown : one.shown ≡ other.shown
  -- The arguments of each ask for a command.
  pub command : Command
  pub asks : command_of one ≡ Some command
  pub other_command : Command
  pub other_asks : command_of other ≡ Some other_command
  -- The commands are the same but for these options.
  pub otherwise : IsWorkedOtherwise command other_command
