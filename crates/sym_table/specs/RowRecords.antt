-- The records of a file's rows, or the first row that is none.
use Rattle.std.specs.Prelude.{ℕ, ◌+◌, List, [], ◌∷◌, ◌++◌, Result, Ok, Err}
use Rattle.sym_base.specs.declared.values.value.Value.{Value}
use Rattle.sym_base.specs.declared.values.record.Record.{Record}
use Rattle.sym_check.specs.Meaning.Arithmetic.{◌>>=◌}
use Rattle.sym_check.specs.Plan.ScriptPlans.{ScriptPlan}
use Rattle.sym_table.specs.declared.bad.Bad.{Bad}
use Rattle.sym_table.specs.declared.bad.BadCause.{BadCause}
use Rattle.sym_table.specs.declared.header.Header.{Header}
use Rattle.sym_table.specs.Reading.{Row}
use Rattle.sym_table.specs.Rows.{HasValues, BreaksRow, read_row}

-- Rows that are all records, numbered from n on.
pub data HaveRecords (p : ScriptPlan) (header : Header) : ℕ → List Row → List Record → Type 0 where
  no_row : (n : ℕ) → HaveRecords p header n [] []
  one_more : (n : ℕ) (row : Row) (rows : List Row) (values : List Value) (records : List Record)
      → HasValues p.enums p.fields header row values
      → HaveRecords p header (n + 1) rows records
      → HaveRecords p header n (row ∷ rows) (record { no = n; fields = values } ∷ records)

-- A row breaks a rule, and those before it are records. The rows are numbered from n on.
pub data FirstBadRow (p : ScriptPlan) (header : Header) : ℕ → List Row → Bad → Type 0 where
  here : (n : ℕ) (row : Row) (rows : List Row) (why : BadCause)
      → BreaksRow p.enums p.fields header row why
      → FirstBadRow p header n (row ∷ rows) (record { no = n; cause = why })
  later : (n : ℕ) (row : Row) (rows : List Row) (values : List Value) (bad : Bad)
      → HasValues p.enums p.fields header row values
      → FirstBadRow p header (n + 1) rows bad
      → FirstBadRow p header n (row ∷ rows) bad

-- The record with the number n, or the row with it that is none.
abbrev pub record_or_bad : ℕ → Result (List Value) BadCause → Result Record Bad
record_or_bad n (Ok values) = Ok (record { no = n; fields = values })
record_or_bad n (Err why) = Err (record { no = n; cause = why })

-- The records of rows, numbered from n on, or the first row that is none.
abbrev pub records_or_bad : ScriptPlan → Header → ℕ → List Row → Result (List Record) Bad
records_or_bad p header n [] = Ok []
records_or_bad p header n (row ∷ rows) = do
  rec ← record_or_bad n (read_row p.enums p.fields header row)
  others ← records_or_bad p header (n + 1) rows
  Ok (rec ∷ others)

-- The records of some rows and of those after them, or the first row that is none.
abbrev pub in_turn : Result (List Record) Bad → Result (List Record) Bad
    → Result (List Record) Bad
in_turn found others = do
  first ← found
  rest ← others
  Ok (first ++ rest)
