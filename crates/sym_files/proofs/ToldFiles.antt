-- What is told of the rounds of files.
use Rattle.std.proofs.Common.{◌≡◌, ◌∙◌, refl, sym, ap, subst, ℕ, ◌+◌, ◌≤◌, ◌⊎◌, inl, inr, ⊎_elim, arith, append_assoc, append-nil, List, [], ◌∷◌, ◌++◌, length, length-append, map, take, Option, Some, Result, Ok, Err, slice_get}
use Rattle.std.proofs.lemmas.List.{map-append}
use Rattle.sym_base.specs.declared.values.memory.NoMemory.{NoMemory}
use Rattle.sym_base.specs.declared.values.record.Record.{Record}
use Rattle.sym_check.specs.Meaning.Arithmetic.{and_then}
use Rattle.sym_check.specs.Plan.ScriptPlans.{ScriptPlan}
use Rattle.sym_table.specs.declared.bad.Bad.{Bad}
use Rattle.sym_table.specs.declared.header.Header.{Header}
use Rattle.sym_table.specs.declared.header.HeadFault.{HeadFault}
use Rattle.sym_table.specs.Cutting.{Cutting, Opens}
use Rattle.sym_table.specs.Headers.{columns_of}
use Rattle.sym_table.specs.Reading.{Row}
use Rattle.sym_table.specs.RowRecords.{records_or_bad}
use Rattle.sym_table.proofs.RecordsAgree.{records_hold}
use Rattle.sym_files.specs.declared.error.PassErr.{PassErr}
use Rattle.sym_files.specs.declared.error.PassErr.TheVariants as pass_err
use Rattle.sym_files.specs.declared.rounds.Took.TheVariants as took
use Rattle.sym_files.specs.FileRecords.{FileRules, IsFine, IsHeader, header_of, or_else, row_records, rows_by, shown_rows}
use Rattle.sym_files.specs.FileRounds.{AreDone, AreFilesRounds, AreRounds, DoneFiles, DoneRounds, FileBegins, FirstRounds, IsWithin, OfBefore, OfFiles, OfSome, UntilStop, NamedFiles, rounds_records}
use Rattle.sym_files.specs.FileRounds as files_are
use Rattle.sym_files.specs.Passing.{May, MayAll}
use Rattle.sym_files.specs.Taking.{IsOpened, IsUnread, OpensFile}
use Rattle.sym_files.specs.Telling.{BeginWith, DoneOf, DoneWith, MayBegin, Point, Tells, TellsAnywhere, TellsBefore, TellsFile, TellsRows, TellsSome, tells_by}
use Rattle.sym_files.specs.Telling as point
use Rattle.sym_files.proofs.FileByFile.{file_fine, may_both, take_at}
use Rattle.sym_files.proofs.RoundLists.{Rounds, are_rounds, none_of_none, records_both}
use Rattle.sym_files.proofs.RowsAgree.{header_holds, places_count}

-- ---- the rows of one file
abbrev begins_here : (p : ScriptPlan) (shown : Row → Row) (first : ℕ) (row : Row) (left : List Row) (header : Header) (rs : Rounds)
    → columns_of row 0 p.fields ≡ Ok header.places → header.columns ≡ length row → BeginWith p header shown first left rs
    → FileBegins p first (shown_rows shown (row ∷ left)) (rounds_records rs)
begins_here p shown first row left header rs places columns b =
    let is : header_of p row ≡ Ok header = rw places (ap (λ n. Ok (record { places = header.places; columns = n })) (sym columns)) in
    let head : IsHeader p row header = rw is at (header_holds p row) in
    record {
      row = row;
      header = header;
      taken = map shown b.taken;
      rest = map shown b.rest;
      reads = ap (λ rows. row ∷ rows) (ap (map shown) b.are ∙ map-append shown b.taken b.rest);
      is_header = head;
      have = rw b.read at (records_hold p header first (map shown b.taken) (places_count row p.fields header.places head.have));
    }

-- The file has no rows, or its first rows are a header and the records of these rounds.
file_begins : (p : ScriptPlan) (shown : Row → Row) (first : ℕ) (rows left : List Row) (c : Cutting) (rs : Rounds)
    → Opens p.fields rows (Ok c) → c.left ≡ Some left → BeginWith p c.header shown first left rs
    → (left ≡ []) ⊎ FileBegins p first (shown_rows shown rows) (rounds_records rs)
file_begins p shown first [] left c rs opens has b =
    let same : ◌≡◌ {A = Option (List Row)} (Some left) (Some []) = sym has ∙ opens in inl (cc)
file_begins p shown first (row ∷ rows) left c rs opens has b =
    let some : ◌≡◌ {A = Option (List Row)} (Some rows) (Some left) = sym opens.2 ∙ has in
    let same : rows ≡ left = cc in
    inr (subst (λ (l : List Row). FileBegins p first (shown_rows shown (row ∷ l)) (rounds_records rs)) (sym same)
    (begins_here p shown first row left c.header rs opens.0 opens.1 b))

-- What is left as it is shown.
done_shown : (shown : Row → Row) (per : ℕ) (rs : Rounds) (rest : List Row) → AreDone per rs rest → AreDone per rs (map shown rest)
done_shown shown per rs rest (inl full) = inl full
done_shown shown per rs rest (inr ends) = inr (ends.0, ap (map shown) ends.1)

-- The same of the rounds that were done.
file_done : (p : ScriptPlan) (shown : Row → Row) (per first : ℕ) (rows left : List Row) (c : Cutting) (rs : Rounds)
    → Opens p.fields rows (Ok c) → c.left ≡ Some left → DoneWith p c.header shown per first left rs
    → (left ≡ []) ⊎ DoneOf p per first (shown_rows shown rows) rs
file_done p shown per first [] left c rs opens has d =
    let same : ◌≡◌ {A = Option (List Row)} (Some left) (Some []) = sym has ∙ opens in inl (cc)
file_done p shown per first (row ∷ rows) left c rs opens has d =
    let some : ◌≡◌ {A = Option (List Row)} (Some rows) (Some left) = sym opens.2 ∙ has in
    let same : rows ≡ left = cc in
    let here : DoneOf p per first (shown_rows shown (row ∷ left)) rs =
    record {
      begins = begins_here p shown first row left c.header rs opens.0 opens.1 d.begin;
      done = done_shown shown per rs d.begin.rest d.done;
    } in
    inr (subst (λ (l : List Row). DoneOf p per first (shown_rows shown (row ∷ l)) rs) (sym same) here)

no_rows_none : (p : ScriptPlan) (header : Header) (shown : Row → Row) (per first : ℕ) (left : List Row) (rs : Rounds)
    → 1 ≤ per → AreRounds per rs → left ≡ [] → BeginWith p header shown first left rs → rs ≡ []
no_rows_none p header shown per first left rs some are none b =
    let nothing : b.taken ++ b.rest ≡ [] = sym b.are ∙ none in
    let empty : b.taken ≡ [] = first_none b.taken b.rest nothing in
    let read : ◌≡◌ {A = Result (List Record) Bad} (Ok []) (Ok (rounds_records rs)) = ap (λ rows. records_or_bad p header first (map shown rows)) (sym empty) ∙ b.read in
    let same : rounds_records rs ≡ [] = cc in
    none_of_none per rs some are same
  where
    first_none : (xs ys : List Row) → xs ++ ys ≡ [] → xs ≡ []
    first_none [] ys e = refl
    first_none (x ∷ xs) ys e = absurd (cc)

-- No row is no bad one.
not_bad : (p : ScriptPlan) (header : Header) (n : ℕ) (shown : Row → Row) (left : List Row) (bad : Bad) → left ≡ [] → records_or_bad p header n (map shown left) ≡ Err bad → ⊥
not_bad p header n shown [] bad none broken = absurd (cc)
not_bad p header n shown (row ∷ left) bad none broken = absurd (cc)

-- ---- what a file comes to
-- All of its rounds are told of.
pub file_told : {S : Type 0} (told : Tells S) (p : ScriptPlan) (shown : Row → Row) (per file first : ℕ) (rows : List Row) (before : Rounds) (now : S) (c : Cutting) (left : List Row)
    → (is : IsOpened p shown file first rows c) → left ≡ is.left
    → TellsRows told p c.header shown per c.next_no left before now (Ok took.Done)
    → TellsFile {A = Unit {0}} told p per file first (shown_rows shown rows) before now (Ok tt)
file_told told p shown per file first rows before now c left is same tells = record {
  rounds = tells.rounds;
  are = tells.are;
  read_as =
      is.reads
      ∙ ap (λ n. or_else (pass_err.Bad file) (records_or_bad p c.header n (map shown is.left))) (sym is.next)
      ∙ ap (λ l. or_else (pass_err.Bad file) (records_or_bad p c.header c.next_no (map shown l))) (sym same)
      ∙ ap (or_else (pass_err.Bad file)) tells.read_as;
  told_of = tells.told_of;
}

-- A row of it is no record.
pub file_told_bad : {S : Type 0} (told : Tells S) (p : ScriptPlan) (shown : Row → Row) (per file first : ℕ) (rows : List Row) (before : Rounds) (now : S) (c : Cutting) (left : List Row) (bad : Bad)
    → (is : IsOpened p shown file first rows c) → left ≡ is.left → records_or_bad p c.header c.next_no (map shown left) ≡ Err bad
    → TellsRows told p c.header shown per c.next_no left before now (Ok (took.Bad bad))
    → TellsFile {A = Unit {0}} told p per file first (shown_rows shown rows) before now (Err (pass_err.Bad file bad))
file_told_bad told p shown per file first rows before now c left bad is same broken tells =
    let at_first : BeginWith p c.header shown first left tells.rounds = subst (λ (n : ℕ). BeginWith p c.header shown n left tells.rounds) is.next tells.begins in
    let has : c.left ≡ Some left = is.has ∙ ap Some (sym same) in (
      refl,
      record {
        rounds = tells.rounds;
        full = tells.full;
        begins =
            ⊎_elim (λ (none : left ≡ []). absurd (not_bad p c.header c.next_no shown left bad none broken))
            (λ (b : FileBegins p first (shown_rows shown rows) (rounds_records tells.rounds)). b)
            (file_begins p shown first rows left c tells.rounds is.opens has at_first);
        within = subst (λ (n : ℕ). IsWithin (n + length (rounds_records tells.rounds)) per bad.no) is.next tells.within;
        told_of = tells.told_of;
      },
    )

-- An allocation failed.
pub file_told_refused : {S : Type 0} (told : Tells S) (p : ScriptPlan) (shown : Row → Row) (per file first : ℕ) (rows : List Row) (before : Rounds) (now : S) (c : Cutting) (left : List Row) (e : NoMemory)
    → (is : IsOpened p shown file first rows c) → left ≡ is.left → 1 ≤ per
    → TellsRows told p c.header shown per c.next_no left before now (Err e)
    → TellsFile {A = Unit {0}} told p per file first (shown_rows shown rows) before now (Err pass_err.NoMemory)
file_told_refused told p shown per file first rows before now c left e is same some tells =
    let at_first : DoneWith p c.header shown per first left tells.rounds = subst (λ (n : ℕ). DoneWith p c.header shown per n left tells.rounds) is.next tells.begins in
    let has : c.left ≡ Some left = is.has ∙ ap Some (sym same) in
    let are : AreRounds per tells.rounds = are_rounds per tells.rounds at_first.begin.rest at_first.done in
    record {
      rounds = tells.rounds;
      begins =
          ⊎_elim (λ (none : left ≡ []). inl (no_rows_none p c.header shown per first left tells.rounds some are none at_first.begin))
          (λ (d : DoneOf p per first (shown_rows shown rows) tells.rounds). inr d)
          (file_done p shown per first rows left c tells.rounds is.opens has at_first);
      point = tells.point;
      told_of = tells.told_of;
    }

-- The header has a fault, or an allocation failed.
head_at : (p : ScriptPlan) (file first n : ℕ) (fault : HeadFault) (rows : List Row) → row_records p file first rows ≡ Err (pass_err.Head n fault) → n ≡ file
head_at p file first n fault [] e = absurd (cc)
head_at p file first n fault (row ∷ rows) e = go (header_of p row) e
  where
    bad_only : (r : Result (List Record) Bad) → or_else (pass_err.Bad file) r ≡ Err (pass_err.Head n fault) → n ≡ file
    bad_only (Ok records) h = absurd (cc)
    bad_only (Err bad) h = absurd (cc)

    go : (r : Result Header HeadFault) → and_then (λ header. or_else (pass_err.Bad file) (records_or_bad p header first rows)) (or_else (pass_err.Head file) r) ≡ Err (pass_err.Head n fault) → n ≡ file
    go (Ok header) h = bad_only (records_or_bad p header first rows) h
    go (Err why) h = let same : ◌≡◌ {A = PassErr} (pass_err.Head file why) (pass_err.Head n fault) = cc in cc

pub file_unopened : {S : Type 0} (told : Tells S) (p : ScriptPlan) (shown : Row → Row) (per file first : ℕ) (rows : List Row) (before : Rounds) (now : S) (why : PassErr)
    → OpensFile p shown file first rows (Err why) → told now point.between before
    → TellsFile {A = Unit {0}} told p per file first (shown_rows shown rows) before now (Err why)
file_unopened told p shown per file first rows before now (pass_err.Read n) opens at = opens
file_unopened told p shown per file first rows before now (pass_err.TooLarge n) opens at = opens
file_unopened told p shown per file first rows before now (pass_err.Head n fault) opens at =
    (head_at p file first n fault (shown_rows shown rows) opens, at)
file_unopened told p shown per file first rows before now (pass_err.Bad n bad) opens at = absurd opens
file_unopened told p shown per file first rows before now pass_err.NoMemory opens at = record {
  rounds = [];
  begins = inl refl;
  point = point.between;
  told_of = subst (λ (r : Rounds). told now point.between r) (sym (append-nil before)) at;
}

-- What a file came to, by the script and what is shown as they were.
pub file_told_as : {S : Type 0} (told : S → S → ScriptPlan → Point → Rounds → Type 0) (p q : ScriptPlan) (start : S) (f g : Row → Row) (per m file first : ℕ) (rows : List Row) (before : Rounds)
    (new : S) (r : Result (Unit {0}) PassErr) → p ≡ q → f ≡ g → per ≡ m
    → TellsFile (tells_by told p start) p per file first (shown_rows f rows) before new r → TellsFile (tells_by told q start) q m file first (shown_rows g rows) before new r
file_told_as told p q start f g per m file first rows before new r plan shown same tells =
    let P : ScriptPlan → Type 0 = λ x. TellsFile (tells_by told x start) x per file first (shown_rows f rows) before new r in
    let F : (Row → Row) → Type 0 = λ x. TellsFile (tells_by told q start) q per file first (shown_rows x rows) before new r in
    let N : ℕ → Type 0 = λ x. TellsFile (tells_by told q start) q x file first (shown_rows g rows) before new r in
    subst N same (subst F shown (subst P plan tells))

-- ---- file after file
pub record IsToldFiles {S : Type 0} (told : Tells S) (w : NamedFiles) (k next : ℕ) (now : S) : Type 0 where
  pub rounds : Rounds
  pub done : DoneFiles w k rounds
  pub next_is : next ≡ w.first + length (rounds_records rounds)
  pub told_of : told now point.between rounds

pub told_files_begin : {S : Type 0} (told : Tells S) (w : NamedFiles) (now : S) → told now point.between [] → IsToldFiles told w 0 w.first now
told_files_begin told w now at = record {
  rounds = [];
  done = record { files = []; may = tt; are = files_are.no_file w.first };
  next_is = omega arith;
  told_of = at;
}

files_then : (p : ScriptPlan) (rules : FileRules) (per first : ℕ) (files more : List (List ℕ)) (rs others : Rounds)
    → AreFilesRounds p rules per first files rs → AreFilesRounds p rules per (first + length (rounds_records rs)) more others → AreFilesRounds p rules per first (files ++ more) (rs ++ others)
files_then p rules per _ _ more _ others (files_are.no_file first) all =
    let same : first + 0 ≡ first = omega arith in
    subst (λ (n : ℕ). AreFilesRounds p rules per n more others) same all
files_then p rules per _ _ more _ others (files_are.one_more first bytes rest rs later fine are then_are) all =
    let same : first + length (rounds_records (rs ++ later)) ≡ first + length (rounds_records rs) + length (rounds_records later) =
    omega (arith, ap length (records_both rs later), length-append (rounds_records rs) (rounds_records later)) in
    subst (λ (r : Rounds). AreFilesRounds p rules per first (bytes ∷ (rest ++ more)) r) (sym (append_assoc rs later others))
    (files_are.one_more first bytes (rest ++ more) rs (later ++ others) fine are
    (files_then p rules per (first + length (rounds_records rs)) rest more later others then_are (subst (λ (n : ℕ). AreFilesRounds p rules per n more others) same all)))

one_file : (p : ScriptPlan) (rules : FileRules) (per first : ℕ) (bytes : List ℕ) (rs : Rounds) → IsFine p rules first bytes (rounds_records rs) → AreRounds per rs → AreFilesRounds p rules per first (bytes ∷ []) rs
one_file p rules per first bytes rs fine are =
    subst (λ (r : Rounds). AreFilesRounds p rules per first (bytes ∷ []) r) (append-nil rs)
    (files_are.one_more first bytes [] rs [] fine are (files_are.no_file (first + length (rounds_records rs))))

-- One file more.
pub told_files_on : {S : Type 0} (told : Tells S) (w : NamedFiles) (k n next : ℕ) (now later : S) (name bytes : List ℕ)
    → (t : IsToldFiles told w k n now) → slice_get w.names k ≡ Some name → May (w.holds name) bytes → length bytes ≤ w.rules.max_bytes
    → (f : TellsFile {A = Unit {0}} told w.plan w.per k n (rows_by w.rules bytes) t.rounds later (Ok tt)) → next ≡ n + length (rounds_records f.rounds)
    → IsToldFiles told w (k + 1) next later
told_files_on told w k n next now later name bytes t at may size f after =
    let fine = subst (λ (m : ℕ). IsFine w.plan w.rules m bytes (rounds_records f.rounds)) t.next_is (file_fine w.plan w.rules k n bytes (rounds_records f.rounds) size f.read_as) in
    record {
      rounds = t.rounds ++ f.rounds;
      done = record {
        files = t.done.files ++ bytes ∷ [];
        may =
            subst (λ (ns : List (List ℕ)). MayAll w.holds ns (t.done.files ++ bytes ∷ [])) (sym (take_at w.names k name at))
            (may_both w.holds (take k w.names) (name ∷ []) t.done.files (bytes ∷ []) t.done.may (may, tt));
        are =
            files_then w.plan w.rules w.per w.first t.done.files (bytes ∷ []) t.rounds f.rounds t.done.are
            (one_file w.plan w.rules w.per (w.first + length (rounds_records t.rounds)) bytes f.rounds fine f.are);
      };
      next_is = omega (arith, after, t.next_is, ap length (records_both t.rounds f.rounds), length-append (rounds_records t.rounds) (rounds_records f.rounds));
      told_of = f.told_of;
    }

-- The number after the file, by its records.
pub next_by : (n next : ℕ) (read : Result (List Record) PassErr) (records : List Record) (rs : Rounds) → next ≡ n + length records → read ≡ Ok records → read ≡ Ok (rounds_records rs)
    → next ≡ n + length (rounds_records rs)
next_by n next read records rs after is reads =
    let both : ◌≡◌ {A = Result (List Record) PassErr} (Ok records) (Ok (rounds_records rs)) = sym is ∙ reads in
    let same : records ≡ rounds_records rs = cc in after ∙ ap (λ (r : List Record). n + length r) same

-- ---- why files aren't taken
of_files : {S : Type 0} (told : Tells S) (w : NamedFiles) (k next : ℕ) (now : S) → IsToldFiles told w k next now → OfFiles w k (told now point.between)
of_files told w k next now t = record { rounds = t.rounds; done = t.done; so = t.told_of }

pub of_some : {S : Type 0} (told : Tells S) (w : NamedFiles) (k next : ℕ) (now : S) → IsToldFiles told w k next now → OfSome w (TellsAnywhere told now)
of_some told w k next now t = record {
  file = k;
  rounds = t.rounds;
  done = t.done;
  others = [];
  begins = inl refl;
  so = (point.between, subst (λ (r : Rounds). told now point.between r) (sym (append-nil t.rounds)) t.told_of);
}

-- The file isn't read.
pub unread_told : {S : Type 0} (told : Tells S) (w : NamedFiles) (k next max before after : ℕ) (holds : Option (List ℕ)) (now : S) (why : PassErr)
    → IsToldFiles told w k next now → IsUnread max k holds before after why
    → UntilStop w (told now point.between) (told now point.at_bad) (TellsAnywhere told now) why
unread_told told w k next max before after holds now (pass_err.Read n) t unread =
    subst (λ (m : ℕ). OfFiles w m (told now point.between)) (sym unread.0) (of_files told w k next now t)
unread_told told w k next max before after holds now (pass_err.TooLarge n) t unread =
    subst (λ (m : ℕ). OfFiles w m (told now point.between)) (sym unread.0) (of_files told w k next now t)
unread_told told w k next max before after holds now (pass_err.Head n fault) t unread = absurd unread
unread_told told w k next max before after holds now (pass_err.Bad n bad) t unread = absurd unread
unread_told told w k next max before after holds now pass_err.NoMemory t unread = of_some told w k next now t

first_rounds : (w : NamedFiles) (k n first : ℕ) (name bytes : List ℕ) (rs : Rounds) → slice_get w.names k ≡ Some name → May (w.holds name) bytes
    → length bytes ≤ w.rules.max_bytes → n ≡ first → FileBegins w.plan n (rows_by w.rules bytes) (rounds_records rs) → FirstRounds w k first rs
first_rounds w k n first name bytes rs at may size same b = record {
  name = name;
  named = at;
  bytes = bytes;
  may = may;
  small = size;
  begins = subst (λ (m : ℕ). FileBegins w.plan m (rows_by w.rules bytes) (rounds_records rs)) same b;
}

done_rounds : (w : NamedFiles) (k n first : ℕ) (name bytes : List ℕ) (rs : Rounds) → slice_get w.names k ≡ Some name → May (w.holds name) bytes
    → length bytes ≤ w.rules.max_bytes → n ≡ first → DoneOf w.plan w.per n (rows_by w.rules bytes) rs → DoneRounds w k first rs
done_rounds w k n first name bytes rs at may size same d =
    let here = subst (λ (m : ℕ). DoneOf w.plan w.per m (rows_by w.rules bytes) rs) same d in
    record { begins = record { name = name; named = at; bytes = bytes; may = may; small = size; begins = here.begins }; done = here.done }

-- The file isn't taken.
pub untaken_told : {S : Type 0} (told : Tells S) (w : NamedFiles) (k n : ℕ) (now later : S) (name bytes : List ℕ) (why : PassErr)
    → (t : IsToldFiles told w k n now) → slice_get w.names k ≡ Some name → May (w.holds name) bytes → length bytes ≤ w.rules.max_bytes
    → TellsFile {A = Unit {0}} told w.plan w.per k n (rows_by w.rules bytes) t.rounds later (Err why)
    → UntilStop w (told later point.between) (told later point.at_bad) (TellsAnywhere told later) why
untaken_told told w k n now later name bytes (pass_err.Read file) t at may size f = absurd f
untaken_told told w k n now later name bytes (pass_err.TooLarge file) t at may size f = absurd f
untaken_told told w k n now later name bytes (pass_err.Head file fault) t at may size f =
    subst (λ (m : ℕ). OfFiles w m (told later point.between)) (sym f.0) (record { rounds = t.rounds; done = t.done; so = f.1 })
untaken_told told w k n now later name bytes (pass_err.Bad file bad) t at may size f =
    let b = f.1 in
    let count : n + length (rounds_records b.rounds) ≡ w.first + length (rounds_records (t.rounds ++ b.rounds)) =
    omega (arith, t.next_is, ap length (records_both t.rounds b.rounds), length-append (rounds_records t.rounds) (rounds_records b.rounds)) in
    subst (λ (m : ℕ). OfBefore w m bad.no (told later point.at_bad)) (sym f.0)
    (record {
      rounds = t.rounds;
      done = t.done;
      others = b.rounds;
      full = b.full;
      begins = first_rounds w k n (w.first + length (rounds_records t.rounds)) name bytes b.rounds at may size t.next_is b.begins;
      within = subst (λ (m : ℕ). IsWithin m w.per bad.no) count b.within;
      so = b.told_of;
    })
untaken_told told w k n now later name bytes pass_err.NoMemory t at may size f = record {
  file = k;
  rounds = t.rounds;
  done = t.done;
  others = f.rounds;
  begins =
      ⊎_elim (λ (none : f.rounds ≡ []). inl none)
      (λ (d : DoneOf w.plan w.per n (rows_by w.rules bytes) f.rounds). inr (done_rounds w k n (w.first + length (rounds_records t.rounds)) name bytes f.rounds at may size t.next_is d))
      f.begins;
  so = (f.point, f.told_of);
}

-- All files are taken.
pub all_told : {S : Type 0} (told : Tells S) (w : NamedFiles) (k next : ℕ) (now : S) → k ≡ length w.names → IsToldFiles told w k next now → OfFiles w (length w.names) (told now point.between)
all_told told w k next now all t = subst (λ (m : ℕ). OfFiles w m (told now point.between)) all (of_files told w k next now t)
