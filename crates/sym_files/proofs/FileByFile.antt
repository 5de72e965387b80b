-- The files so far, and what comes of the next one.
use Rattle.std.proofs.Common.{◌≡◌, ◌∙◌, append-nil, refl, sym, ap, ℕ, zero, suc, ◌+◌, ◌≤◌, ◌<◌, arith, append_assoc, length-append, List, [], ◌∷◌, ◌++◌, length, take, drop, map, get_or, Option, Some, None, IfSome, Ok, Err, slice_get, replicate, subst}
use Rattle.std.specs.Option.{unwrap_or}
use Rattle.std.proofs.lemmas.List.{take-append-drop, length-map, length-replicate}
use Rattle.std.proofs.lemmas.List.Elements.{length_all_zip}
use Rattle.std.proofs.Math.Seq.{take-append_seam}
use Rattle.sym_base.specs.Counts.{Rose}
use Rattle.sym_base.specs.declared.values.record.Record.{Record}
use Rattle.sym_check.specs.Plan.ScriptPlans.{ScriptPlan}
use Rattle.sym_table.specs.declared.header.Header.{Header}
use Rattle.sym_table.specs.FileRows.{file_rows}
use Rattle.sym_table.specs.Reading.{Row}
use Rattle.sym_table.proofs.RowCounts.{rows_few}
use Rattle.sym_files.specs.declared.error.PassErr.{PassErr}
use Rattle.sym_files.specs.declared.error.PassErr.TheVariants as pass_err
use Rattle.sym_table.specs.RowRecords.{HaveRecords}
use Rattle.sym_table.specs.RowRecords as have
use Rattle.sym_files.specs.FileRecords.{FileRules, shown_rows, rows_by, IsFine, HasProblem, row_records}
use Rattle.sym_files.specs.FileRecords as files
use Rattle.sym_files.specs.FirstProblems.{AllFine, FirstProblem}
use Rattle.sym_files.specs.FirstProblems as problems
use Rattle.sym_files.specs.Rounds.{Extends}
use Rattle.sym_files.specs.Taking.{IsTaken, IsUnread, TakesFile}
use Rattle.sym_files.specs.Passing.{May, MayAll, FailsAt, HasFirstProblem, StopsFrom}
use Rattle.sym_files.proofs.FilesAgree.{in_size}

-- ---- files after files
pub fine_then : (p : ScriptPlan) (rules : FileRules) (first : ℕ) (told more : List (List ℕ)) (records others : List Record)
    → AllFine p rules first told records → AllFine p rules (first + length records) more others → AllFine p rules first (told ++ more) (records ++ others)
fine_then p rules _ _ more _ others (problems.no_file first) all =
    let same : first + 0 ≡ first = omega arith in
    let P : ℕ → Type 0 = λ n. AllFine p rules n more others in subst P same all
fine_then p rules _ _ more _ others (problems.one_more first bytes rest records later fine all) then_all =
    let same : first + length (records ++ later) ≡ first + length records + length later = omega (arith, length-append records later) in
    let P : ℕ → Type 0 = λ n. AllFine p rules n more others in
    let Q : List Record → Type 0 = λ all. AllFine p rules first (bytes ∷ (rest ++ more)) all in
    subst Q (sym (append_assoc records later others))
    (problems.one_more first bytes (rest ++ more) records (later ++ others) fine (fine_then p rules (first + length records) rest more later others all (subst P same then_all)))

pub problem_then : (p : ScriptPlan) (rules : FileRules) (file first : ℕ) (told more : List (List ℕ)) (records : List Record) (why : PassErr)
    → AllFine p rules first told records → FirstProblem p rules (file + length told) (first + length records) more why → FirstProblem p rules file first (told ++ more) why
problem_then p rules file _ _ more _ why (problems.no_file first) problem =
    let same : first + 0 ≡ first = omega arith in
    let as_file : file + 0 ≡ file = omega arith in
    let P : ℕ → Type 0 = λ n. FirstProblem p rules (file + 0) n more why in
    let Q : ℕ → Type 0 = λ n. FirstProblem p rules n first more why in subst Q as_file (subst P same problem)
problem_then p rules file _ _ more _ why (problems.one_more first bytes rest records later fine all) problem =
    let same : first + length (records ++ later) ≡ first + length records + length later = omega (arith, length-append records later) in
    let as_file : file + length (bytes ∷ rest) ≡ file + 1 + length rest = omega arith in
    let P : ℕ → Type 0 = λ n. FirstProblem p rules (file + length (bytes ∷ rest)) n more why in
    let Q : ℕ → Type 0 = λ n. FirstProblem p rules n (first + length records + length later) more why in
    problems.later file first bytes (rest ++ more) records why fine
    (problem_then p rules (file + 1) (first + length records) rest more later why all (subst Q as_file (subst P same problem)))

-- ---- bytes that files may hold
may_one : (o : Option (List ℕ)) → May o (unwrap_or o [])
may_one None = tt
may_one (Some bytes) = refl

pub may_be : (o : Option (List ℕ)) (bytes : List ℕ) → IfSome o (λ told. bytes ≡ told) → May o bytes
may_be None bytes h = tt
may_be (Some told) bytes h = h

-- Some bytes for each name.
abbrev some_files : (List ℕ → Option (List ℕ)) → List (List ℕ) → List (List ℕ)
some_files holds names = map (λ name. unwrap_or (holds name) []) names

may_some : (holds : List ℕ → Option (List ℕ)) (names : List (List ℕ)) → MayAll holds names (some_files holds names)
may_some holds [] = tt
may_some holds (name ∷ names) = (may_one (holds name), may_some holds names)

pub may_both : (holds : List ℕ → Option (List ℕ)) (names others told more : List (List ℕ)) → MayAll holds names told → MayAll holds others more
    → MayAll holds (names ++ others) (told ++ more)
may_both holds [] others [] more a b = b
may_both holds [] others (t ∷ told) more a b = absurd a
may_both holds (n ∷ names) others [] more a b = absurd a
may_both holds (n ∷ names) others (t ∷ told) more a b = (a.0, may_both holds names others told more a.1 b)

may_whole : (holds : List ℕ → Option (List ℕ)) (names told more : List (List ℕ)) (k : ℕ) → MayAll holds (take k names) told → MayAll holds (drop k names) more
    → MayAll holds names (told ++ more)
may_whole holds names told more k a b =
    let P : List (List ℕ) → Type 0 = λ ns. MayAll holds ns (told ++ more) in
    subst P (take-append-drop k names) (may_both holds (take k names) (drop k names) told more a b)

-- The name at a place, and those after it.
pub drop_at : (names : List (List ℕ)) (k : ℕ) (name : List ℕ) → slice_get names k ≡ Some name → drop k names ≡ name ∷ drop (k + 1) names
drop_at [] k name e = absurd (cc)
drop_at (n ∷ names) zero name e = let same : n ≡ name = cc in ap (λ x. x ∷ names) same
drop_at (n ∷ names) (suc k) name e =
    let more : suc (k + 1) ≡ suc k + 1 = omega arith in
    drop_at names k name e ∙ ap (λ m. name ∷ drop m (n ∷ names)) more

pub take_at : (names : List (List ℕ)) (k : ℕ) (name : List ℕ) → slice_get names k ≡ Some name → take (k + 1) names ≡ take k names ++ name ∷ []
take_at [] k name e = absurd (cc)
take_at (n ∷ names) zero name e = let same : n ≡ name = cc in ap (λ x. x ∷ []) same
take_at (n ∷ names) (suc k) name e =
    let more : suc k + 1 ≡ suc (k + 1) = omega arith in
    ap (λ m. take m (n ∷ names)) more ∙ ap (λ ns. n ∷ ns) (take_at names k name e)

within : (names : List (List ℕ)) (k : ℕ) (name : List ℕ) → slice_get names k ≡ Some name → length (take k names) ≡ k
within [] k name e = absurd (cc)
within (n ∷ names) zero name e = refl
within (n ∷ names) (suc k) name e = let more = within names k name e in omega (arith, more)

-- ---- how far files are taken
pub record IsPassing {S : Type 0} (stands : S → List Record → Type 0) (p : ScriptPlan) (rules : FileRules) (holds : List ℕ → Option (List ℕ)) (names : List (List ℕ))
    (first k next : ℕ) (old now : S) : Type 0 where
  pub told : List (List ℕ)
  pub may : MayAll holds (take k names) told
  pub records : List Record
  pub fine : AllFine p rules first told records
  pub next_is : next ≡ first + length records
  pub extends : Extends stands old now records

told_count : (holds : List ℕ → Option (List ℕ)) (names told : List (List ℕ)) (k : ℕ) (name : List ℕ)
    → MayAll holds (take k names) told → slice_get names k ≡ Some name → length told ≡ k
told_count holds names told k name may at =
    sym (length_all_zip (λ n bytes. May (holds n) bytes) (take k names) told may) ∙ within names k name at

pub file_fine : (p : ScriptPlan) (rules : FileRules) (file first : ℕ) (bytes : List ℕ) (records : List Record) → length bytes ≤ rules.max_bytes
    → row_records p file first (rows_by rules bytes) ≡ Ok records → IsFine p rules first bytes records
file_fine p rules file first bytes records size e =
    rw e at (in_size p rules file first bytes (rows_by rules bytes) size refl)

file_problem : (p : ScriptPlan) (rules : FileRules) (file first : ℕ) (bytes : List ℕ) (why : PassErr) → length bytes ≤ rules.max_bytes
    → row_records p file first (rows_by rules bytes) ≡ Err why → HasProblem p rules file first bytes why
file_problem p rules file first bytes why size e =
    rw e at (in_size p rules file first bytes (rows_by rules bytes) size refl)

-- ---- rows as they are shown
shown_count : (shown : Row → Row) (rows : List Row) → length (shown_rows shown rows) ≡ length rows
shown_count shown [] = refl
shown_count shown (header ∷ rows) = ap suc (length-map rows shown)

-- ---- a file has no more records than bytes
records_count : (p : ScriptPlan) (header : Header) (n : ℕ) (rows : List Row) (records : List Record) → HaveRecords p header n rows records → length records ≡ length rows
records_count p header _ _ _ (have.no_row n) = refl
records_count p header _ _ _ (have.one_more n row rows values records has are) =
    let more = records_count p header (n + 1) rows records are in omega (arith, more)

pub fine_few : (p : ScriptPlan) (rules : FileRules) (first : ℕ) (bytes : List ℕ) (records : List Record) → IsFine p rules first bytes records → length records ≤ length bytes
fine_few p rules first bytes _ (files.empty size e) = omega arith
fine_few p rules first bytes _ (files.filled row rows header records size e is are) =
    let few = rows_few bytes in
    let shown = shown_count rules.shown (file_rows bytes) in
    let same = records_count p header first rows records are in
    let count : length (rows_by rules bytes) ≡ length (row ∷ rows) = ap length e in
    omega (arith, few, same, shown, count)

-- ---- one file more
one_fine : (p : ScriptPlan) (rules : FileRules) (first : ℕ) (bytes : List ℕ) (records : List Record) → IsFine p rules first bytes records → AllFine p rules first (bytes ∷ []) records
one_fine p rules first bytes records fine =
    let Q : List Record → Type 0 = λ all. AllFine p rules first (bytes ∷ []) all in
    subst Q (append-nil records) (problems.one_more first bytes [] records [] fine (problems.no_file (first + length records)))

pub pass_on : {S : Type 0} (stands : S → List Record → Type 0) (p : ScriptPlan) (rules : FileRules) (holds : List ℕ → Option (List ℕ)) (names : List (List ℕ))
    (first k n next : ℕ) (old now new : S) (name bytes : List ℕ)
    → IsPassing stands p rules holds names first k n old now → slice_get names k ≡ Some name → May (holds name) bytes → length bytes ≤ rules.max_bytes
    → IsTaken stands (row_records p k n (rows_by rules bytes)) n next now new → IsPassing stands p rules holds names first (k + 1) next old new
pass_on stands p rules holds names first k n next old now new name bytes is at may size taken =
    let P : List (List ℕ) → Type 0 = λ ns. MayAll holds ns (is.told ++ bytes ∷ []) in
    let Q : ℕ → Type 0 = λ m. IsFine p rules m bytes taken.records in
    let fine = subst Q is.next_is (file_fine p rules k n bytes taken.records size taken.are) in
    record {
      told = is.told ++ bytes ∷ [];
      may = subst P (sym (take_at names k name at)) (may_both holds (take k names) (name ∷ []) is.told (bytes ∷ []) is.may (may, tt));
      records = is.records ++ taken.records;
      fine = fine_then p rules first is.told (bytes ∷ []) is.records taken.records is.fine (one_fine p rules (first + length is.records) bytes taken.records fine);
      next_is = omega (arith, taken.next_is, is.next_is, length-append is.records taken.records);
      extends = λ before stood.
          let R : List Record → Type 0 = λ records. stands new records in
          subst R (append_assoc before is.records taken.records) (taken.extends (before ++ is.records) (is.extends before stood));
    }

-- The next number is at most by the file's size larger.
pub number_few : {S : Type 0} (stands : S → List Record → Type 0) (p : ScriptPlan) (rules : FileRules) (k n next : ℕ) (now new : S) (bytes : List ℕ)
    → length bytes ≤ rules.max_bytes → IsTaken stands (row_records p k n (rows_by rules bytes)) n next now new → next ≤ n + rules.max_bytes
number_few stands p rules k n next now new bytes size taken =
    let few = fine_few p rules n bytes taken.records (file_fine p rules k n bytes taken.records size taken.are) in
    omega (arith, taken.next_is, few, size)

-- ---- why files aren't taken
pub stops_at : {S : Type 0} (stands : S → List Record → Type 0) (p : ScriptPlan) (rules : FileRules) (holds : List ℕ → Option (List ℕ)) (names : List (List ℕ))
    (first k n : ℕ) (old now : S) (name bytes : List ℕ) (why : PassErr)
    → IsPassing stands p rules holds names first k n old now → slice_get names k ≡ Some name → May (holds name) bytes
    → HasProblem p rules k n bytes why → HasFirstProblem p rules holds names first why
stops_at stands p rules holds names first k n old now name bytes why is at may problem =
    let count = told_count holds names is.told k name is.may at in
    let as_file : k ≡ 0 + length is.told = omega (arith, count) in
    let P : ℕ → Type 0 = λ m. HasProblem p rules k m bytes why in
    let Q : ℕ → Type 0 = λ m. FirstProblem p rules m (first + length is.records) (bytes ∷ some_files holds (drop (k + 1) names)) why in
    let R : List (List ℕ) → Type 0 = λ ns. MayAll holds ns (bytes ∷ some_files holds (drop (k + 1) names)) in
    let here = problems.here k (first + length is.records) bytes (some_files holds (drop (k + 1) names)) why (subst P is.next_is problem) in
    record {
      files = is.told ++ bytes ∷ some_files holds (drop (k + 1) names);
      may = may_whole holds names is.told (bytes ∷ some_files holds (drop (k + 1) names)) k is.may
          (subst R (sym (drop_at names k name at)) (may, may_some holds (drop (k + 1) names)));
      problem = problem_then p rules 0 first is.told (bytes ∷ some_files holds (drop (k + 1) names)) is.records why is.fine (subst Q as_file here);
    }

-- More bytes than are allowed, which the file may hold.
larger : (max : ℕ) (o : Option (List ℕ)) → IfSome o (λ bytes. max < length bytes) → (bytes : List ℕ) × May o bytes × (max < length bytes)
larger max None h = (replicate (max + 1) 0, tt, omega (arith, length-replicate {A = ℕ} (max + 1) 0))
larger max (Some bytes) h = (bytes, refl, h)

rose_later : (a b c : ℕ) → a ≤ b → Rose b c → Rose a c
rose_later a b c h rose = omega arith

fails_at : {S : Type 0} (stands : S → List Record → Type 0) (p : ScriptPlan) (rules : FileRules) (holds : List ℕ → Option (List ℕ)) (names : List (List ℕ)) (before after : List ℕ → ℕ)
    (first k n : ℕ) (old now : S) (name : List ℕ)
    → IsPassing stands p rules holds names first k n old now → slice_get names k ≡ Some name → Rose (before name) (after name)
    → FailsAt p rules holds names first before after k
fails_at stands p rules holds names before after first k n old now name is at rose =
    let count = told_count holds names is.told k name is.may at in
    let rest = some_files holds (drop k names) in
    let P : List (List ℕ) → Type 0 = λ fs. AllFine p rules first fs is.records in
    let front : take k (is.told ++ rest) ≡ is.told = ap (λ m. take m (is.told ++ rest)) (sym count) ∙ take-append_seam is.told rest in
    record {
      files = is.told ++ rest;
      may = may_whole holds names is.told rest k is.may (may_some holds (drop k names));
      records = is.records;
      fine = subst P (sym front) is.fine;
      name = name;
      named = at;
      rose = rose;
    }

-- The file wasn't read.
pub unread_stops : {S : Type 0} (stands : S → List Record → Type 0) (p : ScriptPlan) (rules : FileRules) (holds : List ℕ → Option (List ℕ)) (names : List (List ℕ)) (before during after : List ℕ → ℕ)
    (first k n : ℕ) (old now : S) (name : List ℕ) (why : PassErr)
    → IsPassing stands p rules holds names first k n old now → slice_get names k ≡ Some name → before name ≤ during name
    → IsUnread rules.max_bytes k (holds name) (during name) (after name) why → StopsFrom first p rules holds names before after why
unread_stops stands p rules holds names before during after first k n old now name (pass_err.Read file) is at later unread =
    let P : ℕ → Type 0 = λ m. FailsAt p rules holds names first before after m in
    subst P (sym unread.0) (fails_at stands p rules holds names before after first k n old now name is at (rose_later (before name) (during name) (after name) later unread.1))
unread_stops stands p rules holds names before during after first k n old now name (pass_err.TooLarge file) is at later unread =
    let large = larger rules.max_bytes (holds name) unread.1 in
    let P : ℕ → Type 0 = λ m. HasFirstProblem p rules holds names first (pass_err.TooLarge m) in
    subst P (sym unread.0) (stops_at stands p rules holds names first k n old now name large.0 (pass_err.TooLarge k) is at large.1 (files.too_large large.2))
unread_stops stands p rules holds names before during after first k n old now name (pass_err.Head file fault) is at later unread = absurd unread
unread_stops stands p rules holds names before during after first k n old now name (pass_err.Bad file bad) is at later unread = absurd unread
unread_stops stands p rules holds names before during after first k n old now name pass_err.NoMemory is at later unread = tt

-- The file has a problem.
pub untaken_stops : {S : Type 0} (stands : S → List Record → Type 0) (p : ScriptPlan) (rules : FileRules) (holds : List ℕ → Option (List ℕ)) (names : List (List ℕ)) (before after : List ℕ → ℕ)
    (first k n later : ℕ) (old now new : S) (name bytes : List ℕ) (why : PassErr)
    → IsPassing stands p rules holds names first k n old now → slice_get names k ≡ Some name → May (holds name) bytes → length bytes ≤ rules.max_bytes
    → TakesFile {A = Unit {0}} stands (row_records p k n (rows_by rules bytes)) n later now new (Err why) → StopsFrom first p rules holds names before after why
untaken_stops stands p rules holds names before after first k n later old now new name bytes (pass_err.Read file) is at may size e = absurd e
untaken_stops stands p rules holds names before after first k n later old now new name bytes (pass_err.TooLarge file) is at may size e = absurd e
untaken_stops stands p rules holds names before after first k n later old now new name bytes (pass_err.Head file fault) is at may size e =
    stops_at stands p rules holds names first k n old now name bytes (pass_err.Head file fault) is at may (file_problem p rules k n bytes (pass_err.Head file fault) size e)
untaken_stops stands p rules holds names before after first k n later old now new name bytes (pass_err.Bad file bad) is at may size e =
    stops_at stands p rules holds names first k n old now name bytes (pass_err.Bad file bad) is at may (file_problem p rules k n bytes (pass_err.Bad file bad) size e)
untaken_stops stands p rules holds names before after first k n later old now new name bytes pass_err.NoMemory is at may size e = tt

-- ---- all files
pub pass_begins : {S : Type 0} (stands : S → List Record → Type 0) (p : ScriptPlan) (rules : FileRules) (holds : List ℕ → Option (List ℕ)) (names : List (List ℕ)) (first : ℕ) (now : S)
    → IsPassing stands p rules holds names first 0 first now now
pass_begins stands p rules holds names first now = record {
  told = [];
  may = tt;
  records = [];
  fine = problems.no_file first;
  next_is = omega arith;
  extends = λ before at.
      let P : List Record → Type 0 = λ records. stands now records in subst P (sym (append-nil before)) at;
}

-- ---- names and bytes as the code has them
pub name_at : {A : Type 0} (f : A → List ℕ) (xs : List A) (k : ℕ) (x : A) (name : List ℕ) → k < length xs → x ≡ get_or xs k x → name ≡ f x
    → slice_get (map f xs) k ≡ Some name
name_at f [] k x name h e same = absurd (omega (arith, h))
name_at f (y ∷ ys) zero x name h e same = ap Some (ap f (sym e) ∙ sym same)
name_at f (y ∷ ys) (suc k) x name h e same = name_at f ys k x name (omega (arith, h)) e same

pub may_as : (now holds : List ℕ → Option (List ℕ)) (name items bytes : List ℕ) → now ≡ holds → bytes ≡ items → May (now name) items → May (holds name) bytes
may_as now holds name items bytes same e may =
    let P : (List ℕ → Option (List ℕ)) → Type 0 = λ h. May (h name) items in
    let Q : List ℕ → Type 0 = λ bs. May (holds name) bs in subst Q (sym e) (subst P same may)

pub unread_as : (max k : ℕ) (now holds : List ℕ → Option (List ℕ)) (name : List ℕ) (before after : ℕ) (why : PassErr)
    → now ≡ holds → IsUnread max k (now name) before after why → IsUnread max k (holds name) before after why
unread_as max k now holds name before after why same unread =
    let P : (List ℕ → Option (List ℕ)) → Type 0 = λ h. IsUnread max k (h name) before after why in subst P same unread
