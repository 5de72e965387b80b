-- The equality that is derived for partials holds exactly of what is equal.
use Rattle.std.proofs.Common.{◌≡◌, ℕ, ℤ, List, ap, rules}
use Rattle.std.proofs.lemmas.Bool.Decides.{Decides-int_eq}
use Rattle.std.specs.Bool.{Decides}
use Rattle.std.specs.Ordering.{int_eq}
use Rattle.std.specs.Cmp.Lexicographic.{pointwise, pointwise_decides, bytes_decides}
use Rattle.sym_base.specs.declared.values.report.Column.{Column}
use Rattle.sym_base.specs.declared.values.report.Column.TheVariants.{Words}
use Rattle.sym_base.specs.contracts.values.report.ColumnPartialEq.TheImpl as columns
use Rattle.sym_base.specs.contracts.values.text.TextPartialEq.TheImpl as texts
use Rattle.sym_report.specs.declared.rows.Row.{Row}
use Rattle.sym_report.specs.declared.rows.RowBody.{RowBody}
use Rattle.sym_report.specs.declared.rows.RowBody.TheVariants.{Columns}
use Rattle.sym_report.specs.contracts.rows.RowPartialEq.TheImpl as rows
use Rattle.sym_report.specs.contracts.rows.RowBodyPartialEq.TheImpl as bodies
use Rattle.sym_watch.specs.declared.partial.Partial.{Partial}
use Rattle.sym_watch.specs.contracts.partial.PartialPartialEq.TheImpl as partials

numbers_eq-Decides : (xs ys : List ℤ) → Decides (pointwise int_eq xs ys) (xs ≡ ys)
numbers_eq-Decides = pointwise_decides Decides-int_eq

words_eq-Decides : (xs ys : List (List ℕ))
    → Decides (pointwise (λ x y. (texts.ghosts).eq x y) xs ys) (xs ≡ ys)
words_eq-Decides = pointwise_decides bytes_decides

column_eq-Decides : (x y : Column) → Decides ((columns.ghosts).eq x y) (x ≡ y)
column_eq-Decides (Words xs) (Words ys) =
    let words = words_eq-Decides xs ys in (λ h. ap Words (words.0 h), λ e. words.1 (cc e))
column_eq-Decides (Words xs) _ = (λ h. absurd (cc h), λ e. absurd (cc e))
column_eq-Decides x y = search (rules, numbers_eq-Decides)

columns_eq-Decides : (xs ys : List Column)
    → Decides (pointwise (λ x y. (columns.ghosts).eq x y) xs ys) (xs ≡ ys)
columns_eq-Decides = pointwise_decides column_eq-Decides

body_eq-Decides : (x y : RowBody) → Decides ((bodies.ghosts).eq x y) (x ≡ y)
body_eq-Decides (Columns xs) (Columns ys) =
    let columns = columns_eq-Decides xs ys in (λ h. ap Columns (columns.0 h), λ e. columns.1 (cc e))
body_eq-Decides (Columns xs) _ = (λ h. absurd (cc h), λ e. absurd (cc e))
body_eq-Decides x y = search rules

row_eq-Decides : (x y : Row) → Decides ((rows.ghosts).eq x y) (x ≡ y)
row_eq-Decides x y =
    let keys = columns_eq-Decides x.keys y.keys in
    let body = body_eq-Decides x.body y.body in search (rules, keys.0, keys.1, body.0, body.1)

rows_eq-Decides : (xs ys : List Row)
    → Decides (pointwise (λ x y. (rows.ghosts).eq x y) xs ys) (xs ≡ ys)
rows_eq-Decides = pointwise_decides row_eq-Decides

pub partial_eq-Decides : (x y : Partial) → Decides ((partials.ghosts).eq x y) (x ≡ y)
partial_eq-Decides x y =
    let rows = rows_eq-Decides x.rows y.rows in search (rules, rows.0, rows.1)
