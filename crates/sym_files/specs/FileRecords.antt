-- The records of one file, or its first problem.
use Rattle.std.specs.Prelude.{◌≡◌, ◌≤◌, ◌<◌, ℕ, nat_le, if◌then◌else◌, List, [], ◌∷◌, length, map, Result, Ok, Err}
use Rattle.sym_base.specs.declared.values.record.Record.{Record}
use Rattle.sym_check.specs.Meaning.Arithmetic.{◌>>=◌}
use Rattle.sym_check.specs.Plan.ScriptPlans.{ScriptPlan}
use Rattle.sym_table.specs.declared.bad.Bad.{Bad}
use Rattle.sym_table.specs.declared.header.Header.{Header}
use Rattle.sym_table.specs.declared.header.HeadFault.{HeadFault}
use Rattle.sym_table.specs.FileRows.{file_rows}
use Rattle.sym_table.specs.Headers.{AreColumns, FirstHeadFault, columns_of}
use Rattle.sym_table.specs.Reading.{Row}
use Rattle.sym_table.specs.RowRecords.{HaveRecords, FirstBadRow, records_or_bad}
use Rattle.sym_files.specs.declared.error.PassErr.{PassErr}
use Rattle.sym_files.specs.declared.error.PassErr.TheVariants as pass_err

-- The first row is the header: each field has its column in it.
pub record IsHeader (p : ScriptPlan) (row : Row) (header : Header) : Type 0 where
  pub have : AreColumns row p.fields header.places
  pub width : header.columns ≡ length row

-- How files are read: the most bytes that a file may have, and what each of its rows but the header
-- is shown as to the script.
pub record FileRules : Type 0 where
  pub max_bytes : ℕ
  pub shown : Row → Row

-- Files of at most so many bytes, each row as it is shown.
abbrev pub rules_of : ℕ → (Row → Row) → FileRules
rules_of max_bytes shown = record { max_bytes = max_bytes; shown = shown }

-- Files of at most so many bytes, each row as it is.
abbrev pub plain_rules : ℕ → FileRules
plain_rules max_bytes = rules_of max_bytes (λ row. row)

-- The header as it is, and the other rows as they are shown.
abbrev pub shown_rows : (Row → Row) → List Row → List Row
shown_rows shown [] = []
shown_rows shown (header ∷ rows) = header ∷ map shown rows

-- The rows of a file, as they are shown.
abbrev pub rows_by : FileRules → List ℕ → List Row
rows_by rules bytes = shown_rows rules.shown (file_rows bytes)

-- A file without a problem, and its records, numbered from `first` on. One of no rows has no
-- records; else the first row is the header, and all others are records.
pub data IsFine (p : ScriptPlan) (rules : FileRules) (first : ℕ) (bytes : List ℕ)
    : List Record → Type 0 where
  empty : length bytes ≤ rules.max_bytes
      → rows_by rules bytes ≡ []
      → IsFine p rules first bytes []
  filled : (row : Row) (rows : List Row) (header : Header) (records : List Record)
      → length bytes ≤ rules.max_bytes
      → rows_by rules bytes ≡ row ∷ rows
      → IsHeader p row header
      → HaveRecords p header first rows records
      → IsFine p rules first bytes records

-- The first problem of the file with the number `file`: its size; else its header's first fault;
-- else its first row that is no record.
pub data HasProblem (p : ScriptPlan) (rules : FileRules) (file first : ℕ) (bytes : List ℕ)
    : PassErr → Type 0 where
  too_large : rules.max_bytes < length bytes
      → HasProblem p rules file first bytes (pass_err.TooLarge file)
  bad_head : (row : Row) (rows : List Row) (fault : HeadFault)
      → length bytes ≤ rules.max_bytes
      → rows_by rules bytes ≡ row ∷ rows
      → FirstHeadFault row 0 p.fields fault
      → HasProblem p rules file first bytes (pass_err.Head file fault)
  bad_row : (row : Row) (rows : List Row) (header : Header) (bad : Bad)
      → length bytes ≤ rules.max_bytes
      → rows_by rules bytes ≡ row ∷ rows
      → IsHeader p row header
      → FirstBadRow p header first rows bad
      → HasProblem p rules file first bytes (pass_err.Bad file bad)

-- Another error in the place of one.
abbrev pub or_else : {A D E : Type 0} → (D → E) → Result A D → Result A E
or_else f (Ok x) = Ok x
or_else f (Err e) = Err (f e)

-- The header by the first row, or its first fault.
abbrev pub header_of : ScriptPlan → Row → Result Header HeadFault
header_of p row = do
  places ← columns_of row 0 p.fields
  Ok (record { places = places; columns = length row })

-- The records of a file's rows, or the first problem of its header and rows.
abbrev pub row_records : ScriptPlan → ℕ → ℕ → List Row → Result (List Record) PassErr
row_records p file first [] = Ok []
row_records p file first (row ∷ rows) = do
  header ← or_else (pass_err.Head file) (header_of p row)
  or_else (pass_err.Bad file) (records_or_bad p header first rows)

-- The records of a file, or its first problem.
abbrev pub file_records : ScriptPlan → FileRules → ℕ → ℕ → List ℕ → Result (List Record) PassErr
file_records p rules file first bytes =
    if nat_le (length bytes) rules.max_bytes
    then row_records p file first (rows_by rules bytes)
    else Err (pass_err.TooLarge file)
