-- The form `pairs`, for logs: a line of `name=value` for each row. The form is this project's
-- profile.
use Rattle.std.specs.Prelude.{ℕ, ◌==◌, ◌||◌, if◌then◌else◌, List, [], ◌∷◌, ◌++◌, map, codes}
use Rattle.std.specs.List.{flat_map, zip}
use Rattle.sym_base.specs.declared.values.report.Column.{Column}
use Rattle.sym_report.specs.declared.rows.Heads.{Heads}
use Rattle.sym_report.specs.declared.rows.Row.{Row}
use Rattle.sym_report.specs.declared.rows.RowBody.{RowBody}
use Rattle.sym_report.specs.declared.rows.RowBody.TheVariants.{Columns, Over, Arith}
use Rattle.sym_report.specs.Forms.{FormTexts}
use Rattle.sym_report.specs.ValueTexts.{joined, value_text, over_fault, arith_fault}

-- A byte between quotes: a backslash (92) stands before a quote (34) and before a backslash.
abbrev pub escaped_byte : ℕ → List ℕ
escaped_byte b = if (b == 34) || (b == 92) then 92 ∷ b ∷ [] else b ∷ []

-- A word between quotes.
abbrev pub quoted_word : List ℕ → List ℕ
quoted_word word = codes "\"" ++ (flat_map escaped_byte word ++ codes "\"")

-- A name and its value.
abbrev pub pair_text : (List ℕ × Column) → List ℕ
pair_text pair = pair.0 ++ (codes "=" ++ value_text quoted_word pair.1)

-- Names, each with the value at its place.
abbrev pub pair_texts : List (List ℕ) → List Column → List (List ℕ)
pair_texts names values = map pair_text (zip names values)

abbrev pub fault_pair : List ℕ → List ℕ
fault_pair fault = codes "fault=" ++ quoted_word fault

-- The texts after a row's keys.
abbrev pub body_pairs : List (List ℕ) → RowBody → List (List ℕ)
body_pairs names (Columns columns) = pair_texts names columns
body_pairs names (Over cell record_no) = fault_pair (over_fault cell record_no) ∷ []
body_pairs names (Arith record_no) = fault_pair (arith_fault record_no) ∷ []

-- The line of a row, with a space between two texts.
abbrev pub pairs_line : Heads → Row → List ℕ
pairs_line heads row =
    joined (codes " ") (pair_texts heads.keys row.keys ++ body_pairs heads.columns row.body)
    ++ codes "\n"

-- The form `pairs`. Neither the names above the rows nor the end have a text.
abbrev pub pairs_form : FormTexts
pairs_form = record { begin = λ heads. []; row = pairs_line; end = λ heads. [] }
