-- What the run of all chunks of a round comes to on no groups.
use Rattle.std.specs.Prelude.{◌≡◌, List, Result, Ok, Err}
use Rattle.sym_base.specs.declared.values.record.Record.{Record}
use Rattle.sym_run.specs.declared.runs.Applied.{Applied}
use Rattle.sym_run.specs.declared.runs.Applied.TheVariants as applied
use Rattle.sym_table.specs.declared.bad.Bad.{Bad}

-- All rows are records, or this one is the first that is none.
abbrev pub ComesTo : Result (List Record) Bad → Applied → Type 0
ComesTo read (applied.Done groups) = (records : List Record) × (read ≡ Ok records)
ComesTo read (applied.Bad bad) = read ≡ Err bad
