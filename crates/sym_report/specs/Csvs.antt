-- The form `csv`, for programs and spreadsheets: a row of names and a row for each group, each as
-- `csv` writes its fields with its default settings (RFC 4180 with line feeds). The last field is
-- for a fault. The form is this project's profile.
use Rattle.std.specs.Prelude.{ℕ, List, [], ◌∷◌, ◌++◌, map, codes}
use Rattle.csv.specs.Writing as csv
use Rattle.sym_report.specs.declared.rows.Heads.{Heads}
use Rattle.sym_report.specs.declared.rows.Row.{Row}
use Rattle.sym_report.specs.declared.rows.RowBody.{RowBody}
use Rattle.sym_report.specs.declared.rows.RowBody.TheVariants.{Columns, Over, Arith}
use Rattle.sym_report.specs.Forms.{FormTexts}
use Rattle.sym_report.specs.ValueTexts.{value_text, over_fault, arith_fault}

-- A word's own bytes.
abbrev pub plain_word : List ℕ → List ℕ
plain_word word = word

-- What `csv` writes for these fields, and a line feed.
abbrev pub csv_line : List (List ℕ) → List ℕ
csv_line = csv.row_text csv.default_writer

-- An empty field for each name.
abbrev pub empty_fields : List (List ℕ) → List (List ℕ)
empty_fields = map (λ name. [])

-- The fields of the row of names: those of the keys and of the columns, and `fault`.
abbrev pub head_fields : Heads → List (List ℕ)
head_fields heads = heads.keys ++ (heads.columns ++ codes "fault" ∷ [])

-- The fields after a row's keys: the columns and an empty field, or an empty field for each column
-- and the fault.
abbrev pub body_fields : List (List ℕ) → RowBody → List (List ℕ)
body_fields names (Columns columns) = map (value_text plain_word) columns ++ [] ∷ []
body_fields names (Over cell record_no) = empty_fields names ++ over_fault cell record_no ∷ []
body_fields names (Arith record_no) = empty_fields names ++ arith_fault record_no ∷ []

abbrev pub row_fields : Heads → Row → List (List ℕ)
row_fields heads row = map (value_text plain_word) row.keys ++ body_fields heads.columns row.body

-- The form `csv`. Its end has no text.
abbrev pub csv_form : FormTexts
csv_form = record {
  begin = λ heads. csv_line (head_fields heads);
  row = λ heads row. csv_line (row_fields heads row);
  end = λ heads. [];
}
