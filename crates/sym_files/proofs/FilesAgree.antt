-- The records of files and their first problem, as a function and as relations.
use Rattle.std.proofs.Common.{◌≡◌, ◌↔◌, ◌⊎◌, inl, inr, refl, ℕ, ◌+◌, ◌≤◌, ◌<◌, arith, Bool, true, false, nat_le, if◌then◌else◌, List, [], ◌∷◌, ◌++◌, length, Result, Ok, Err, MatchResult}
use Rattle.std.proofs.lemmas.Bool.Decides.{leb_tells}
use Rattle.sym_base.specs.declared.values.record.Record.{Record}
use Rattle.sym_check.specs.Meaning.Arithmetic.{and_then}
use Rattle.sym_check.specs.Plan.ScriptPlans.{ScriptPlan}
use Rattle.sym_table.specs.declared.bad.Bad.{Bad}
use Rattle.sym_table.specs.declared.header.Header.{Header}
use Rattle.sym_table.specs.declared.header.HeadFault.{HeadFault}
use Rattle.sym_table.specs.Headers.{FirstHeadFault}
use Rattle.sym_table.specs.Reading.{Row}
use Rattle.sym_files.specs.declared.error.PassErr.{PassErr}
use Rattle.sym_files.specs.declared.error.PassErr.TheVariants as pass_err
use Rattle.sym_table.specs.RowRecords.{HaveRecords, FirstBadRow, records_or_bad}
use Rattle.sym_files.specs.FileRecords.{FileRules, rows_by, IsHeader, IsFine, HasProblem, or_else, header_of, row_records, file_records}
use Rattle.sym_files.specs.FileRecords as files
use Rattle.sym_files.specs.FirstProblems.{AllFine, FirstProblem, records_in}
use Rattle.sym_files.specs.FirstProblems as problems
use Rattle.sym_table.proofs.RecordsAgree.{records_hold, records_answered, bad_answered}
use Rattle.sym_files.proofs.RowsAgree.{header_holds, header_answered, head_answered, places_count}

-- ---- one file
in_rows : (p : ScriptPlan) (rules : FileRules) (file first : ℕ) (bytes : List ℕ) (row : Row) (rows : List Row) (header : Header) (r : Result (List Record) Bad)
    → length bytes ≤ rules.max_bytes → rows_by rules bytes ≡ row ∷ rows → IsHeader p row header
    → MatchResult r (HaveRecords p header first rows) (FirstBadRow p header first rows)
    → MatchResult (or_else (pass_err.Bad file) r) (IsFine p rules first bytes) (HasProblem p rules file first bytes)
in_rows p rules file first bytes row rows header (Ok records) size e is are = files.filled row rows header records size e is are
in_rows p rules file first bytes row rows header (Err bad) size e is broken = files.bad_row row rows header bad size e is broken

in_header : (p : ScriptPlan) (rules : FileRules) (file first : ℕ) (bytes : List ℕ) (row : Row) (rows : List Row) (r : Result Header HeadFault)
    → length bytes ≤ rules.max_bytes → rows_by rules bytes ≡ row ∷ rows
    → MatchResult r (IsHeader p row) (FirstHeadFault row 0 p.fields)
    → MatchResult (and_then (λ header. or_else (pass_err.Bad file) (records_or_bad p header first rows)) (or_else (pass_err.Head file) r)) (IsFine p rules first bytes) (HasProblem p rules file first bytes)
in_header p rules file first bytes row rows (Ok header) size e is =
    in_rows p rules file first bytes row rows header (records_or_bad p header first rows) size e is
    (records_hold p header first rows (places_count row p.fields header.places is.have))
in_header p rules file first bytes row rows (Err fault) size e is = files.bad_head row rows fault size e is

pub in_size : (p : ScriptPlan) (rules : FileRules) (file first : ℕ) (bytes : List ℕ) (rows : List Row) → length bytes ≤ rules.max_bytes → rows_by rules bytes ≡ rows
    → MatchResult (row_records p file first rows) (IsFine p rules first bytes) (HasProblem p rules file first bytes)
in_size p rules file first bytes [] size e = files.empty size e
in_size p rules file first bytes (row ∷ rows) size e =
    in_header p rules file first bytes row rows (header_of p row) size e (header_holds p row)

pub file_holds : (p : ScriptPlan) (rules : FileRules) (file first : ℕ) (bytes : List ℕ)
    → MatchResult (file_records p rules file first bytes) (IsFine p rules first bytes) (HasProblem p rules file first bytes)
file_holds p rules file first bytes = go (nat_le (length bytes) rules.max_bytes) (leb_tells (length bytes) rules.max_bytes)
  where
    go : (b : Bool) → ((b ≡ true) × (length bytes ≤ rules.max_bytes)) ⊎ ((b ≡ false) × (rules.max_bytes < length bytes))
        → MatchResult (if b then row_records p file first (rows_by rules bytes) else Err (pass_err.TooLarge file)) (IsFine p rules first bytes) (HasProblem p rules file first bytes)
    go true (inl is) = in_size p rules file first bytes (rows_by rules bytes) is.1 refl
    go true (inr is) = absurd (cc)
    go false (inl is) = absurd (cc)
    go false (inr is) = files.too_large is.1

-- The file's rows, where its size is allowed.
sized : (p : ScriptPlan) (rules : FileRules) (file first : ℕ) (bytes : List ℕ) (rows : List Row) → length bytes ≤ rules.max_bytes → rows_by rules bytes ≡ rows
    → file_records p rules file first bytes ≡ row_records p file first rows
sized p rules file first bytes rows size e = go (nat_le (length bytes) rules.max_bytes) (leb_tells (length bytes) rules.max_bytes)
  where
    go : (b : Bool) → ((b ≡ true) × (length bytes ≤ rules.max_bytes)) ⊎ ((b ≡ false) × (rules.max_bytes < length bytes))
        → (if b then row_records p file first (rows_by rules bytes) else Err (pass_err.TooLarge file)) ≡ row_records p file first rows
    go true h = rw e refl
    go false (inl is) = absurd (cc)
    go false (inr is) = absurd (omega (arith, is.1, size))

pub large : (p : ScriptPlan) (rules : FileRules) (file first : ℕ) (bytes : List ℕ) → rules.max_bytes < length bytes
    → file_records p rules file first bytes ≡ Err (pass_err.TooLarge file)
large p rules file first bytes h = go (nat_le (length bytes) rules.max_bytes) (leb_tells (length bytes) rules.max_bytes)
  where
    go : (b : Bool) → ((b ≡ true) × (length bytes ≤ rules.max_bytes)) ⊎ ((b ≡ false) × (rules.max_bytes < length bytes))
        → (if b then row_records p file first (rows_by rules bytes) else Err (pass_err.TooLarge file)) ≡ Err (pass_err.TooLarge file)
    go true (inl is) = absurd (omega (arith, is.1, h))
    go true (inr is) = absurd (cc)
    go false is = refl

pub fine_answered : (p : ScriptPlan) (rules : FileRules) (file first : ℕ) (bytes : List ℕ) (records : List Record)
    → IsFine p rules first bytes records → file_records p rules file first bytes ≡ Ok records
fine_answered p rules file first bytes _ (files.empty size e) = sized p rules file first bytes [] size e
fine_answered p rules file first bytes _ (files.filled row rows header records size e is are) =
    rw (sized p rules file first bytes (row ∷ rows) size e, header_answered p row header is, records_answered p header first rows records are) refl

pub problem_answered : (p : ScriptPlan) (rules : FileRules) (file first : ℕ) (bytes : List ℕ) (why : PassErr)
    → HasProblem p rules file first bytes why → file_records p rules file first bytes ≡ Err why
problem_answered p rules file first bytes _ (files.too_large h) = large p rules file first bytes h
problem_answered p rules file first bytes _ (files.bad_head row rows fault size e is) =
    rw (sized p rules file first bytes (row ∷ rows) size e, head_answered p row fault is) refl
problem_answered p rules file first bytes _ (files.bad_row row rows header bad size e is broken) =
    rw (sized p rules file first bytes (row ∷ rows) size e, header_answered p row header is, bad_answered p header first rows bad broken) refl

-- ---- all files
after_file : (p : ScriptPlan) (rules : FileRules) (file first : ℕ) (bytes : List ℕ) (rest : List (List ℕ)) (records : List Record) (r : Result (List Record) PassErr)
    → IsFine p rules first bytes records
    → MatchResult r (AllFine p rules (first + length records) rest) (FirstProblem p rules (file + 1) (first + length records) rest)
    → MatchResult (and_then (λ others. Ok (records ++ others)) r) (AllFine p rules first (bytes ∷ rest)) (FirstProblem p rules file first (bytes ∷ rest))
after_file p rules file first bytes rest records (Ok others) fine all = problems.one_more first bytes rest records others fine all
after_file p rules file first bytes rest records (Err why) fine problem = problems.later file first bytes rest records why fine problem

more_files : (p : ScriptPlan) (rules : FileRules) (file first : ℕ) (bytes : List ℕ) (rest : List (List ℕ)) (r : Result (List Record) PassErr)
    → MatchResult r (IsFine p rules first bytes) (HasProblem p rules file first bytes)
    → ((n : ℕ) → MatchResult (records_in p rules (file + 1) n rest) (AllFine p rules n rest) (FirstProblem p rules (file + 1) n rest))
    → MatchResult (and_then (λ records. and_then (λ others. Ok (records ++ others)) (records_in p rules (file + 1) (first + length records) rest)) r) (AllFine p rules first (bytes ∷ rest)) (FirstProblem p rules file first (bytes ∷ rest))
more_files p rules file first bytes rest (Ok records) fine more =
    after_file p rules file first bytes rest records (records_in p rules (file + 1) (first + length records) rest) fine (more (first + length records))
more_files p rules file first bytes rest (Err why) problem more = problems.here file first bytes rest why problem

pub files_hold : (p : ScriptPlan) (rules : FileRules) (file first : ℕ) (bytes : List (List ℕ))
    → MatchResult (records_in p rules file first bytes) (AllFine p rules first bytes) (FirstProblem p rules file first bytes)
files_hold p rules file first [] = problems.no_file first
files_hold p rules file first (bytes ∷ rest) =
    more_files p rules file first bytes rest (file_records p rules file first bytes) (file_holds p rules file first bytes) (λ n. files_hold p rules (file + 1) n rest)

all_answered : (p : ScriptPlan) (rules : FileRules) (file first : ℕ) (bytes : List (List ℕ)) (records : List Record)
    → AllFine p rules first bytes records → records_in p rules file first bytes ≡ Ok records
all_answered p rules file _ _ _ (problems.no_file first) = refl
all_answered p rules file _ _ _ (problems.one_more first bytes rest records others fine all) =
    rw (fine_answered p rules file first bytes records fine, all_answered p rules (file + 1) (first + length records) rest others all) refl

first_answered : (p : ScriptPlan) (rules : FileRules) (file first : ℕ) (bytes : List (List ℕ)) (why : PassErr)
    → FirstProblem p rules file first bytes why → records_in p rules file first bytes ≡ Err why
first_answered p rules _ _ _ _ (problems.here file first bytes rest why problem) =
    rw (problem_answered p rules file first bytes why problem) refl
first_answered p rules _ _ _ _ (problems.later file first bytes rest records why fine problem) =
    rw (fine_answered p rules file first bytes records fine, first_answered p rules (file + 1) (first + length records) rest why problem) refl

-- Both ways, in one.
pub files_records : (p : ScriptPlan) (rules : FileRules) (file first : ℕ) (bytes : List (List ℕ)) (records : List Record)
    → AllFine p rules first bytes records ↔ (records_in p rules file first bytes ≡ Ok records)
files_records p rules file first bytes records =
    (all_answered p rules file first bytes records, λ e. rw e at (files_hold p rules file first bytes))

pub files_problem : (p : ScriptPlan) (rules : FileRules) (file first : ℕ) (bytes : List (List ℕ)) (why : PassErr)
    → FirstProblem p rules file first bytes why ↔ (records_in p rules file first bytes ≡ Err why)
files_problem p rules file first bytes why =
    (first_answered p rules file first bytes why, λ e. rw e at (files_hold p rules file first bytes))
