-- Reports in each form, tried on examples.
use Rattle.std.specs.Prelude.{◌≡◌, refl, ℕ, pos, negsuc, List, [], ◌∷◌, ◌++◌, Some, None, codes}
use Rattle.std.specs.Fmt.{digits}
use Rattle.csv.specs.Writing.{escaped, fields_text, is_blank}
use Rattle.sym_base.specs.declared.values.report.Column.TheVariants as column
use Rattle.sym_base.specs.declared.values.report.ReportFault.TheVariants as fault
use Rattle.sym_report.specs.declared.rows.Heads.{Heads}
use Rattle.sym_report.specs.declared.rows.Row.{Row}
use Rattle.sym_report.specs.declared.rows.RowBody.TheVariants.{Columns, Over, Arith}
use Rattle.sym_report.specs.Forms.{report_text, form_named}
use Rattle.sym_report.specs.Tables.{table_form}
use Rattle.sym_report.specs.Csvs.{csv_form, csv_line}
use Rattle.sym_report.specs.Pairs.{pairs_form, quoted_word}

-- Purchases after a cart: a name with a comma, and numbers.
abbrev purchases : Heads
purchases = record {
  keys = codes "user" ∷ [];
  columns = codes "buys" ∷ codes "paid" ∷ codes "biggest" ∷ [];
}

abbrev ann : Row
ann = record {
  keys = column.Word (codes "ann") ∷ [];
  body = Columns (column.Num (pos 1) ∷ column.Num (pos 1299) ∷ column.Num (pos 1299) ∷ []);
}

abbrev bob : Row
bob = record {
  keys = column.Word (codes "Smith, Bob") ∷ [];
  body = Columns (column.Num (pos 1) ∷ column.Num (pos 250) ∷ column.Num (pos 250) ∷ []);
}

abbrev carts : List Row
carts = ann ∷ bob ∷ []

purchases_in_a_table :
    report_text table_form purchases carts
    ≡ codes "user | buys | paid | biggest\nann | 1 | 1299 | 1299\nSmith, Bob | 1 | 250 | 250\n--\n"
unfolding digits
purchases_in_a_table = refl

purchases_in_csv :
    report_text csv_form purchases carts
    ≡ codes "user,buys,paid,biggest,fault\nann,1,1299,1299,\n\"Smith, Bob\",1,250,250,\n"
unfolding digits escaped fields_text is_blank
purchases_in_csv = refl

purchases_in_pairs :
    report_text pairs_form purchases carts
    ≡ codes "user=\"ann\" buys=1 paid=1299 biggest=1299\n"
    ++ codes "user=\"Smith, Bob\" buys=1 paid=250 biggest=250\n"
unfolding digits
purchases_in_pairs = refl

-- Faults: one of a cell's range, under a key, and one of arithmetic, without keys.
abbrev faults : Heads
faults = record { keys = codes "user" ∷ []; columns = codes "n" ∷ codes "m" ∷ [] }

abbrev past : Row
past = record { keys = column.Word (codes "a") ∷ []; body = Over (codes "n") 4 }

fault_in_csv :
    report_text csv_form faults (past ∷ [])
    ≡ codes "user,n,m,fault\na,,,n overflows at record 4\n"
unfolding digits escaped fields_text is_blank
fault_in_csv = refl

fault_in_pairs :
    report_text pairs_form faults (past ∷ [])
    ≡ codes "user=\"a\" fault=\"n overflows at record 4\"\n"
unfolding digits
fault_in_pairs = refl

abbrev alone : Heads
alone = record { keys = []; columns = codes "n" ∷ [] }

abbrev failed : Row
failed = record { keys = []; body = Arith 2 }

failed_in_csv :
    report_text csv_form alone (failed ∷ [])
    ≡ codes "n,fault\n,arithmetic at record 2\n"
unfolding digits escaped fields_text is_blank
failed_in_csv = refl

failed_in_pairs :
    report_text pairs_form alone (failed ∷ [])
    ≡ codes "fault=\"arithmetic at record 2\"\n"
unfolding digits
failed_in_pairs = refl

-- Without rows only the names are shown, if the form shows them.
no_rows_in_csv : report_text csv_form alone [] ≡ codes "n,fault\n"
unfolding escaped fields_text is_blank
no_rows_in_csv = refl

no_rows_in_pairs : report_text pairs_form alone [] ≡ []
no_rows_in_pairs = refl

-- Nothing, columns that couldn't be computed, and lists.
abbrev kinds : Heads
kinds = record {
  keys = [];
  columns = codes "a" ∷ codes "b" ∷ codes "c" ∷ codes "d" ∷ codes "e" ∷ [];
}

abbrev mixed : Row
mixed = record {
  keys = [];
  body =
      Columns
      (column.Nothing
      ∷ column.Bad fault.Overflow
      ∷ column.Bad fault.Zero
      ∷ column.Nums (negsuc 2 ∷ pos 12 ∷ [])
      ∷ column.Words (codes "x\"y" ∷ codes "" ∷ [])
      ∷ []);
}

mixed_in_a_table :
    report_text table_form kinds (mixed ∷ [])
    ≡ codes "a | b | c | d | e\nnone | overflow | zero divisor | [-3 12] | [x\"y ]\n--\n"
unfolding digits
mixed_in_a_table = refl

mixed_in_csv :
    report_text csv_form kinds (mixed ∷ [])
    ≡ codes "a,b,c,d,e,fault\nnone,overflow,zero divisor,[-3 12],\"[x\"\"y ]\",\n"
unfolding digits escaped fields_text is_blank
mixed_in_csv = refl

mixed_in_pairs :
    report_text pairs_form kinds (mixed ∷ [])
    ≡ codes "a=none b=overflow c=zero divisor d=[-3 12] e=[\"x\\\"y\" \"\"]\n"
unfolding digits
mixed_in_pairs = refl

-- What is quoted: line feeds and quotes in `csv`, quotes and backslashes in `pairs`.
lines_in_csv :
    csv_line (codes "a\nb" ∷ codes "" ∷ codes " c " ∷ codes "\"" ∷ [])
    ≡ codes "\"a\nb\",, c ,\"\"\"\"\n"
unfolding escaped fields_text is_blank
lines_in_csv = refl

marks_in_pairs : quoted_word (codes "a\"\\\nb") ≡ codes "\"a\\\"\\\\\nb\""
marks_in_pairs = refl

-- The first form of a name is the one that is chosen.
first_of_two :
    form_named (λ (f : List ℕ × ℕ). f.0) (codes "a")
    ((codes "b", 1) ∷ (codes "a", 2) ∷ (codes "a", 3) ∷ [])
    ≡ Some (codes "a", 2)
first_of_two = refl

none_of_two :
    form_named (λ (f : List ℕ × ℕ). f.0) (codes "c") ((codes "b", 1) ∷ (codes "a", 2) ∷ [])
    ≡ None
none_of_two = refl
