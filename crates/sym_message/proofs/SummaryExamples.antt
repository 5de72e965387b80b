-- Summaries, and the line of a script, byte by byte.
use Rattle.std.proofs.Common.{◌≡◌, ℕ, ℤ, pos, negsuc, List, [], ◌∷◌, codes, refl}
use Rattle.std.specs.Fmt.{digits}
use Rattle.sym_base.specs.declared.values.report.Column.TheVariants as column
use Rattle.sym_base.specs.declared.values.report.ReportFault.TheVariants.{Zero}
use Rattle.sym_report.specs.declared.rows.Row.{Row}
use Rattle.sym_report.specs.declared.rows.RowBody.{RowBody}
use Rattle.sym_report.specs.declared.rows.RowBody.TheVariants.{Columns, Over, Arith}
use Rattle.sym_message.specs.CheckLines.{counts_line}
use Rattle.sym_message.specs.Summaries.{summary_text}

row : List ℕ → RowBody → Row
row user body = record { keys = column.Word user ∷ []; body = body }

-- A user's row: the sessions that have ended, and the records of the open one.
counts : ℤ → ℤ → RowBody
counts sessions records =
    Columns (column.Num sessions ∷ column.Num records ∷ column.Nothing ∷ [])

-- Five records from the seed 1: of u4 and u9 two each, of u1 one, and no session has ended.
five_records : summary_text 5 (
    row (codes "u4") (counts (pos 0) (pos 2))
    ∷ row (codes "u9") (counts (pos 0) (pos 2))
    ∷ row (codes "u1") (counts (pos 0) (pos 1))
    ∷ []
    ) ≡ codes "records 5\ngroups 3\nfaults 0\nsessions 0\n"
unfolding row counts digits
five_records = refl

no_rows : summary_text 0 [] ≡ codes "records 0\ngroups 0\nfaults 0\nsessions 0\n"
unfolding digits
no_rows = refl

-- Sessions are added; a faulty row has none, whether the group ended or a column isn't there.
faulty_rows : summary_text 12 (
    row (codes "a") (counts (pos 3) (pos 1))
    ∷ row (codes "b") (Over (codes "n") 7)
    ∷ row (codes "c") (Columns (column.Num (pos 5) ∷ column.Bad Zero ∷ []))
    ∷ row (codes "d") (Arith 9)
    ∷ row (codes "e") (counts (pos 20) (pos 2))
    ∷ []
    ) ≡ codes "records 12\ngroups 5\nfaults 3\nsessions 23\n"
unfolding row counts digits
faulty_rows = refl

-- What isn't a number that counts elements adds nothing.
no_counts : summary_text 4 (
    row (codes "a") (Columns (column.Word (codes "7") ∷ []))
    ∷ row (codes "b") (counts (negsuc 4) (pos 2))
    ∷ row (codes "c") (counts (pos 18446744073709551616) (pos 1))
    ∷ row (codes "d") (counts (pos 18446744073709551615) (pos 1))
    ∷ []
    ) ≡ codes "records 4\ngroups 4\nfaults 0\nsessions 18446744073709551615\n"
unfolding row counts digits
no_counts = refl

line_of_a_script : counts_line 3 1 8 ≡ codes "cells 3 tests 1 paths 8\n"
unfolding digits
line_of_a_script = refl
