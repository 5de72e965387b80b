-- The summary of a pass over a log that `make` made: records, groups, those that are faulty, and the
-- sessions of the others. The summary is this project's profile.
use Rattle.std.specs.Prelude.{ℕ, ℤ, pos, negsuc, ◌^◌, nat_lt, not, if◌then◌else◌, List, [], ◌∷◌, ◌++◌, Option, None, Some, length, filter, sum_by, count_by, codes}
use Rattle.std.specs.Fmt.{decimal}
use Rattle.sym_base.specs.declared.values.report.Column.{Column}
use Rattle.sym_base.specs.declared.values.report.Column.TheVariants as column
use Rattle.sym_report.specs.declared.rows.Row.{Row}
use Rattle.sym_report.specs.declared.rows.RowBody.{RowBody}
use Rattle.sym_report.specs.declared.rows.RowBody.TheVariants.{Columns, Over, Arith}
use Rattle.sym_report.specs.ReportRows.{is_faulty}

-- At most one item, as a list.
abbrev pub listed : {A : Type 0} → Option A → List A
listed None = []
listed (Some x) = x ∷ []

-- A number that counts elements, from 0 to 2^64 - 1. Any other number counts as 0.
abbrev pub counted_number : ℤ → ℕ
counted_number (pos n) = if nat_lt n (2 ^ 64) then n else 0
counted_number (negsuc n) = 0

-- The same of a column; one that is no number counts as 0.
abbrev pub counted : Column → ℕ
counted (column.Num n) = counted_number n
counted (column.Word text) = 0
counted (column.Nums numbers) = 0
counted (column.Words words) = 0
counted column.Nothing = 0
counted (column.Bad fault) = 0

abbrev pub first_counted : List Column → ℕ
first_counted [] = 0
first_counted (first ∷ rest) = counted first

-- The sessions of a group: what the first column of its row counts.
abbrev pub sessions_of : RowBody → ℕ
sessions_of (Columns columns) = first_counted columns
sessions_of (Over cell record_no) = 0
sessions_of (Arith record_no) = 0

-- The faulty rows, counted.
abbrev pub faults_in : List Row → ℕ
faults_in = count_by (λ row. is_faulty row.body)

-- The sessions of all rows that aren't faulty.
abbrev pub sessions_in : List Row → ℕ
sessions_in rows =
    sum_by (λ row. sessions_of row.body) (filter (λ row. not (is_faulty row.body)) rows)

-- A line of the summary.
abbrev pub count_line : List ℕ → ℕ → List ℕ
count_line what count = what ++ (decimal count ++ codes "\n")

-- The four lines.
abbrev pub text_of_counts : ℕ → ℕ → ℕ → ℕ → List ℕ
text_of_counts records groups faults sessions =
    count_line (codes "records ") records
    ++ count_line (codes "groups ") groups
    ++ count_line (codes "faults ") faults
    ++ count_line (codes "sessions ") sessions

-- The summary of so many records with these report rows.
abbrev pub summary_text : ℕ → List Row → List ℕ
summary_text records rows =
    text_of_counts records (length rows) (faults_in rows) (sessions_in rows)
