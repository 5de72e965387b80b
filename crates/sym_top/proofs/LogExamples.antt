-- A log whole and cut into two files, and what observers are told of it.
use Rattle.std.proofs.Common.{◌≡◌, ℕ, pos, List, [], ◌∷◌, codes, Some, None, refl, lit≤, arith}
use Rattle.std.specs.Str.{chars, is_utf8}
use lib.Utf8.{encode}
use Rattle.csv.proofs.OnLiterals.{csv_on_literals}
use Rattle.sym_base.specs.declared.values.report.Column.TheVariants as column
use Rattle.sym_table.specs.Reading.{Row}
use Rattle.sym_report.specs.declared.rows.Row.{Row as ReportRow}
use Rattle.sym_report.specs.declared.rows.RowBody.TheVariants.{Columns, Over}
use Rattle.sym_files.specs.Cuts.{AreCutTo, Holds, in_one, one_more}
use Rattle.sym_files.specs.FileRecords.{plain_rules, rows_by}
use Rattle.sym_watch.specs.declared.partial.Partial.{Partial}
use Rattle.sym_watched.specs.Partials.{AllGrew, partials_of}
use Rattle.sym_top.proofs.HeadlineExamples.{first, first_records, rules, second, tree, visit, visits}

-- ---- three rows after a header, in one file of 17 bytes and in two

abbrev whole : List ℕ
whole = codes "user\nann\nbob\nann\n"

abbrev names : Row
names = codes "user" ∷ []

abbrev user : List ℕ → Row
user name = name ∷ []

whole_rows : rows_by rules whole ≡ names ∷ user (codes "ann") ∷ user (codes "bob") ∷ user (codes "ann") ∷ []
unfolding csv_on_literals is_utf8 chars encode
whole_rows = refl

first_rows : rows_by rules first ≡ names ∷ user (codes "ann") ∷ user (codes "bob") ∷ []
unfolding csv_on_literals is_utf8 chars encode
first_rows = refl

second_rows : rows_by rules second ≡ names ∷ user (codes "ann") ∷ []
unfolding csv_on_literals is_utf8 chars encode
second_rows = refl

it_is_whole : AreCutTo rules names (user (codes "ann") ∷ user (codes "bob") ∷ user (codes "ann") ∷ []) (whole ∷ [])
it_is_whole = in_one _ whole (record { small = lit≤ tt; are = whole_rows })

it_is_cut : AreCutTo rules names (user (codes "ann") ∷ user (codes "bob") ∷ user (codes "ann") ∷ []) (first ∷ second ∷ [])
it_is_cut =
    one_more (user (codes "ann") ∷ user (codes "bob") ∷ []) (user (codes "ann") ∷ []) first (second ∷ []) (record { small = lit≤ tt; are = first_rows })
    (in_one (user (codes "ann") ∷ []) second (record { small = lit≤ tt; are = second_rows }))

-- A file of more bytes than the rules allow is none of them.
too_large : (rows : List Row) → Holds (plain_rules 16) names rows whole → ⊥
too_large rows holds = omega (arith, holds.small)

-- ---- the partials of a round of two records, and of one more: all groups, in order of first appearance

abbrev one_visit : List ℕ → ReportRow
one_visit user = record { keys = column.Word user ∷ []; body = Columns (column.Num (pos 1) ∷ []) }

abbrev too_many : ReportRow
too_many = record { keys = column.Word (codes "ann") ∷ []; body = Over (codes "n") 3 }

partials_are : partials_of tree visits.plan (first_records ∷ (visit 3 (codes "ann") ∷ []) ∷ [])
    ≡ record { upto = 2; rows = one_visit (codes "ann") ∷ one_visit (codes "bob") ∷ [] }
    ∷ record { upto = 3; rows = too_many ∷ one_visit (codes "bob") ∷ [] } ∷ []
partials_are = refl

-- A log that contracts see has what was told, and nothing else.
a_told_log : (partial : Partial) → AllGrew (Some [] ∷ None ∷ []) (Some (partial ∷ []) ∷ None ∷ []) (partial ∷ [])
a_told_log partial = refl

an_untold_log : (partial : Partial) → AllGrew (Some [] ∷ []) (Some [] ∷ []) (partial ∷ []) → ⊥
an_untold_log partial same = cc
