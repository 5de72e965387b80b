-- What the rounds of a test come to.
use Rattle.std.specs.Prelude.{◌≡◌, List, Result, Ok, Err}
use Rattle.sym_base.specs.declared.values.record.Record.{Record}
use Rattle.sym_table.specs.declared.bad.Bad.{Bad}
use Rattle.sym_files.specs.declared.rounds.Took.{Took}
use Rattle.sym_files.specs.declared.rounds.Took.TheVariants as took

-- All rows are records, or this one is the first that is none.
abbrev pub Reads : Result (List Record) Bad → Took → Type 0
Reads read took.Done = (records : List Record) × (read ≡ Ok records)
Reads read (took.Bad bad) = read ≡ Err bad
