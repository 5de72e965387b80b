-- What the text of a report is in a form, which rows belong under which names, and which form has a
-- name. That a report is made by a form that is handed in is this project's profile.
use Rattle.std.specs.Prelude.{◌≡◌, ℕ, if◌then◌else◌, List, [], ◌∷◌, ◌++◌, length}
use Rattle.std.specs.Prelude.{Option, Some, None}
use Rattle.std.specs.List.{flat_map}
use Rattle.std.specs.Str.{bytes_eq}
use Rattle.sym_report.specs.declared.rows.Heads.{Heads}
use Rattle.sym_report.specs.declared.rows.Row.{Row}
use Rattle.sym_report.specs.declared.rows.RowBody.{RowBody}
use Rattle.sym_report.specs.declared.rows.RowBody.TheVariants.{Columns, Over, Arith}

-- The three texts of a form: of the names above the rows, of a row under these names, and of the
-- report's end under them.
pub record FormTexts : Type 0 where
  pub begin : Heads → List ℕ
  pub row : Heads → Row → List ℕ
  pub end : Heads → List ℕ

-- The texts of rows, in order.
abbrev pub rows_text : FormTexts → Heads → List Row → List ℕ
rows_text form heads rows = flat_map (form.row heads) rows

-- The whole text of a report in a form.
abbrev pub report_text : FormTexts → Heads → List Row → List ℕ
report_text form heads rows =
    form.begin heads ++ (rows_text form heads rows ++ form.end heads)

-- A body that shows columns has as many as there are names.
abbrev pub HasColumns : List (List ℕ) → RowBody → Type 0
HasColumns names (Columns columns) = length columns ≡ length names
HasColumns names (Over cell record_no) = Unit {0}
HasColumns names (Arith record_no) = Unit {0}

-- A row belongs under names: it has as many keys, and as many columns unless it shows a fault.
pub record IsUnder (heads : Heads) (row : Row) : Type 0 where
  pub keys : length row.keys ≡ length heads.keys
  pub columns : HasColumns heads.columns row.body

-- The first of some forms that is called by a name, where `called` gives what each is called.
abbrev pub form_named : {F : Type 0} → (F → List ℕ) → List ℕ → List F → Option F
form_named called name [] = None
form_named called name (form ∷ rest) =
    if bytes_eq (called form) name then Some form else form_named called name rest
