-- The form `table`, for people: a line of names, a line for each row, and a last line. The form is
-- this project's profile.
use Rattle.std.specs.Prelude.{ℕ, nat_lt, ◌==◌, ◌||◌, if◌then◌else◌, List, [], ◌∷◌, ◌++◌, map, codes}
use Rattle.sym_report.specs.declared.rows.Heads.{Heads}
use Rattle.sym_report.specs.declared.rows.Row.{Row}
use Rattle.sym_report.specs.declared.rows.RowBody.{RowBody}
use Rattle.sym_report.specs.declared.rows.RowBody.TheVariants.{Columns, Over, Arith}
pub use Rattle.sym_report.specs.Forms.{FormTexts, report_text}
use Rattle.sym_report.specs.ValueTexts.{joined, value_text, over_fault, arith_fault}

-- A byte of a word; a control character is shown as `?`.
abbrev pub shown_byte : ℕ → ℕ
shown_byte b = if nat_lt b 32 || (b == 127) then 63 else b

abbrev pub shown_word : List ℕ → List ℕ
shown_word = map shown_byte

-- Names or values of one row, with ` | ` between two, and the end of the line.
abbrev pub table_line : List (List ℕ) → List ℕ
table_line texts = joined (codes " | ") texts ++ codes "\n"

-- The line of names.
abbrev pub head_text : Heads → List ℕ
head_text heads = table_line (heads.keys ++ heads.columns)

abbrev pub fault_text : List ℕ → List ℕ
fault_text fault = codes "fault: " ++ fault

-- The texts after a row's keys.
abbrev pub body_texts : RowBody → List (List ℕ)
body_texts (Columns columns) = map (value_text shown_word) columns
body_texts (Over cell record_no) = fault_text (over_fault cell record_no) ∷ []
body_texts (Arith record_no) = fault_text (arith_fault record_no) ∷ []

-- The line of a row.
abbrev pub row_text : Row → List ℕ
row_text row = table_line (map (value_text shown_word) row.keys ++ body_texts row.body)

-- The last line.
abbrev pub end_text : List ℕ
end_text = codes "--\n"

-- The form `table`.
abbrev pub table_form : FormTexts
table_form = record {
  begin = head_text;
  row = λ heads row. row_text row;
  end = λ heads. end_text;
}

-- The whole table.
abbrev pub table_text : Heads → List Row → List ℕ
table_text = report_text table_form
