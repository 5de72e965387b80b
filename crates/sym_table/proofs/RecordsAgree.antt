-- The records of rows, as a function and as relations, of some rows and more, and their kinds.
use Rattle.std.proofs.Common.{◌≡◌, ◌∙◌, ◌↔◌, refl, ap, ℕ, ◌+◌, arith, add-zero, List, [], ◌∷◌, ◌++◌, length, Result, Ok, Err, MatchResult}
use Rattle.std.specs.List.{All}
use Rattle.std.proofs.lemmas.List.Elements.{All-cons, All-nil}
use Rattle.sym_base.specs.declared.values.value.Value.{Value}
use Rattle.sym_base.specs.declared.values.record.Record.{Record}
use Rattle.sym_check.specs.Meaning.Arithmetic.{and_then}
use Rattle.sym_check.specs.Plan.ScriptPlans.{ScriptPlan}
use Rattle.sym_check.specs.Meaning.Validity.{IsRecord}
use Rattle.sym_check.specs.Plan.WellFormed.{IsWellFormed}
use Rattle.sym_table.specs.declared.bad.Bad.{Bad}
use Rattle.sym_table.specs.declared.bad.BadCause.{BadCause}
use Rattle.sym_table.specs.declared.header.Header.{Header}
use Rattle.sym_table.specs.Reading.{Row}
use Rattle.sym_table.specs.RowRecords.{HaveRecords, FirstBadRow, record_or_bad, records_or_bad, in_turn}
use Rattle.sym_table.specs.RowRecords as records
use Rattle.sym_table.specs.Rows.{HasValues, BreaksRow, read_row}
use Rattle.sym_table.proofs.FieldKinds.{row_is_record}
use Rattle.sym_table.proofs.RowsAgree.{row_holds, values_answered, fault_answered}

-- One row, and then the others.
more_hold : (p : ScriptPlan) (header : Header) (n : ℕ) (row : Row) (rows : List Row) (first : Result (List Value) BadCause) (rest : Result (List Record) Bad)
    → MatchResult first (HasValues p.enums p.fields header row) (BreaksRow p.enums p.fields header row)
    → MatchResult rest (HaveRecords p header (n + 1) rows) (FirstBadRow p header (n + 1) rows)
    → MatchResult (and_then (λ rec. and_then (λ others. Ok (rec ∷ others)) rest) (record_or_bad n first)) (HaveRecords p header n (row ∷ rows)) (FirstBadRow p header n (row ∷ rows))
more_hold p header n row rows (Ok values) (Ok found) has are = records.one_more n row rows values found has are
more_hold p header n row rows (Ok values) (Err bad) has broken = records.later n row rows values bad has broken
more_hold p header n row rows (Err why) rest breaks others = records.here n row rows why breaks

pub records_hold : (p : ScriptPlan) (header : Header) (n : ℕ) (rows : List Row) → length header.places ≡ length p.fields
    → MatchResult (records_or_bad p header n rows) (HaveRecords p header n rows) (FirstBadRow p header n rows)
records_hold p header n [] l = records.no_row n
records_hold p header n (row ∷ rows) l =
    more_hold p header n row rows (read_row p.enums p.fields header row) (records_or_bad p header (n + 1) rows)
    (row_holds p.enums p.fields header row l) (records_hold p header (n + 1) rows l)

pub records_answered : (p : ScriptPlan) (header : Header) (n : ℕ) (rows : List Row) (found : List Record)
    → HaveRecords p header n rows found → records_or_bad p header n rows ≡ Ok found
records_answered p header _ _ _ (records.no_row n) = refl
records_answered p header _ _ _ (records.one_more n row rows values found has are) =
    rw (values_answered p.enums p.fields header row values has, records_answered p header (n + 1) rows found are) refl

pub bad_answered : (p : ScriptPlan) (header : Header) (n : ℕ) (rows : List Row) (bad : Bad)
    → FirstBadRow p header n rows bad → records_or_bad p header n rows ≡ Err bad
bad_answered p header _ _ _ (records.here n row rows why breaks) =
    rw (fault_answered p.enums p.fields header row why breaks) refl
bad_answered p header _ _ _ (records.later n row rows values bad has after) =
    rw (values_answered p.enums p.fields header row values has, bad_answered p header (n + 1) rows bad after) refl

-- Both ways, in one.
pub rows_records : (p : ScriptPlan) (header : Header) (n : ℕ) (rows : List Row) (found : List Record) → length header.places ≡ length p.fields
    → HaveRecords p header n rows found ↔ (records_or_bad p header n rows ≡ Ok found)
rows_records p header n rows found l =
    (records_answered p header n rows found, λ e. rw e at (records_hold p header n rows l))

pub rows_bad : (p : ScriptPlan) (header : Header) (n : ℕ) (rows : List Row) (bad : Bad) → length header.places ≡ length p.fields
    → FirstBadRow p header n rows bad ↔ (records_or_bad p header n rows ≡ Err bad)
rows_bad p header n rows bad l =
    (bad_answered p header n rows bad, λ e. rw e at (records_hold p header n rows l))

-- ---- rows and more
then_none : (r : Result (List Record) Bad) → r ≡ in_turn (Ok []) r
then_none (Ok found) = refl
then_none (Err bad) = refl

then_more : (r : Result Record Bad) (x y : Result (List Record) Bad)
    → and_then (λ rec. and_then (λ others. Ok (rec ∷ others)) (in_turn x y)) r ≡ in_turn (and_then (λ rec. and_then (λ others. Ok (rec ∷ others)) x) r) y
then_more (Err bad) x y = refl
then_more (Ok rec) (Err bad) y = refl
then_more (Ok rec) (Ok found) (Err bad) = refl
then_more (Ok rec) (Ok found) (Ok others) = refl

pub rows_append : (p : ScriptPlan) (header : Header) (n : ℕ) (first rest : List Row)
    → records_or_bad p header n (first ++ rest) ≡ in_turn (records_or_bad p header n first) (records_or_bad p header (n + length first) rest)
rows_append p header n [] rest = rw add-zero (then_none (records_or_bad p header n rest))
rows_append p header n (row ∷ first) rest =
    let next : (n + 1) + length first ≡ n + length (row ∷ first) = omega arith in
    ap (λ found. and_then (λ rec. and_then (λ others. Ok (rec ∷ others)) found) (record_or_bad n (read_row p.enums p.fields header row))) (rows_append p header (n + 1) first rest)
    ∙ then_more (record_or_bad n (read_row p.enums p.fields header row)) (records_or_bad p header (n + 1) first) (records_or_bad p header ((n + 1) + length first) rest)
    ∙ ap (λ m. in_turn (records_or_bad p header n (row ∷ first)) (records_or_bad p header m rest)) next

-- ---- kinds
pub records_are : (p : ScriptPlan) (header : Header) (n : ℕ) (rows : List Row) (found : List Record) → IsWellFormed p
    → HaveRecords p header n rows found → All (IsRecord p) found
records_are p header _ _ _ w (records.no_row n) = All-nil (IsRecord p)
records_are p header _ _ _ w (records.one_more n row rows values found has are) =
    All-cons (IsRecord p) (record { no = n; fields = values }) found
    (row_is_record p header row n values w has) (records_are p header (n + 1) rows found w are)
