-- Files have one list of rounds, and those that were done are the first of it.
use Rattle.std.proofs.Common.{◌≡◌, ◌∙◌, refl, sym, ap, subst, ℕ, zero, suc, ◌+◌, ◌≤◌, ◌⊎◌, inl, inr, arith, append_assoc, append-nil, length-append, List, [], ◌∷◌, ◌++◌, length, map, take, drop, Option, Some, Result, Ok, Err, slice_get}
use Rattle.std.proofs.lemmas.List.{take-append-drop}
use Rattle.std.proofs.lemmas.List.Elements.{All-head, All-tail}
use mathlib.Core.List.{IsPrefix}
use Rattle.sym_base.specs.declared.values.record.Record.{Record}
use Rattle.sym_check.specs.Plan.ScriptPlans.{ScriptPlan}
use Rattle.sym_table.specs.declared.bad.Bad.{Bad}
use Rattle.sym_table.specs.declared.header.Header.{Header}
use Rattle.sym_table.specs.declared.header.HeadFault.{HeadFault}
use Rattle.sym_table.specs.Reading.{Row}
use Rattle.sym_table.specs.RowRecords.{HaveRecords, in_turn, records_or_bad}
use Rattle.sym_table.proofs.RecordsAgree.{records_answered, rows_append}
use Rattle.sym_files.specs.declared.error.PassErr.{PassErr}
use Rattle.sym_files.specs.FileRecords.{FileRules, IsFine, IsHeader, rows_by}
use Rattle.sym_files.specs.FileRecords as files_are
use Rattle.sym_files.specs.FileRounds.{AreDone, AreFilesRounds, AreFull, AreRounds, DoneFiles, DoneRounds, FileBegins, NamedFiles, rounds_records}
use Rattle.sym_files.specs.FileRounds as rounds
use Rattle.sym_files.specs.FirstProblems.{AllFine}
use Rattle.sym_files.specs.FirstProblems as problems
use Rattle.sym_files.specs.Passing.{Holds, May, MayAll}
use Rattle.sym_files.proofs.FileByFile.{drop_at}
use Rattle.sym_files.proofs.FilesAgree.{fine_answered}
use Rattle.sym_files.proofs.RoundLists.{Rounds, full_rounds, none_of_none, records_both}
use Rattle.sym_files.proofs.RowsAgree.{header_answered}
use Rattle.sym_files.proofs.ToldRows.{turn_splits}

-- ---- lists
-- Two halves of a list, by the length of the first.
halves : {A : Type 0} (xs ys us vs : List A) → length xs ≡ length us → xs ++ ys ≡ us ++ vs → (xs ≡ us) × (ys ≡ vs)
halves [] ys [] vs same e = (refl, e)
halves [] ys (u ∷ us) vs same e = absurd (omega (arith, same))
halves (x ∷ xs) ys [] vs same e = absurd (omega (arith, same))
halves (x ∷ xs) ys (u ∷ us) vs same e =
    let head : x ≡ u = cc in
    let tail : xs ++ ys ≡ us ++ vs = cc in
    let more = halves xs ys us vs (omega (arith, same)) tail in
    (ap (λ h. h ∷ xs) head ∙ ap (λ t. u ∷ t) more.0, more.1)

none_before : {A : Type 0} (xs ys : List A) → [] ≡ xs ++ ys → xs ≡ []
none_before [] ys e = refl
none_before (x ∷ xs) ys e = absurd (cc)

-- ---- the rounds of a file are determined by its records
-- A last round is no longer than a full one, after which nothing is left then.
last_is : (per : ℕ) (r q : List Record) (qs : Rounds) (rest : List Record) → length r ≤ per → length q ≡ per → r ++ [] ≡ q ++ (rounds_records qs ++ rest)
    → (r ≡ q) × ([] ≡ rounds_records qs ++ rest)
last_is per r q qs rest most full e =
    let counts : length r + 0 ≡ length q + length (rounds_records qs ++ rest) = omega (arith, ap length e, length-append r [], length-append q (rounds_records qs ++ rest)) in
    halves r [] q (rounds_records qs ++ rest) (omega (arith, counts, most, full)) e

last_alone : (per : ℕ) (r q : List Record) (qs : Rounds) → 1 ≤ per → length r ≤ per → length q ≡ per → AreRounds per qs → r ++ [] ≡ q ++ rounds_records qs → r ∷ [] ≡ q ∷ qs
last_alone per r q qs some most full are e =
    let is = last_is per r q qs [] most full (e ∙ ap (λ x. q ++ x) (sym (append-nil (rounds_records qs)))) in
    let none : qs ≡ [] = none_of_none per qs some are (none_before (rounds_records qs) [] is.1) in
    ap (λ x. x ∷ []) is.0 ∙ ap (λ x. q ∷ x) (sym none)

pub rounds_once : (per : ℕ) (rs qs : Rounds) → 1 ≤ per → AreRounds per rs → AreRounds per qs → rounds_records rs ≡ rounds_records qs → rs ≡ qs
rounds_once per _ qs some rounds.no_round b e = sym (none_of_none per qs some b (sym e))
rounds_once per _ _ some (rounds.last_one r has most) rounds.no_round e = absurd (omega (arith, ap length e, length-append r [], has))
rounds_once per _ _ some (rounds.last_one r has most) (rounds.last_one q also few) e =
    ap (λ (x : List Record). x ∷ []) (sym (append-nil r) ∙ e ∙ append-nil q)
rounds_once per _ _ some (rounds.last_one r has most) (rounds.one_more q qs full rest) e = last_alone per r q qs some most full rest e
rounds_once per _ _ some (rounds.one_more r rs full rest) rounds.no_round e = absurd (omega (arith, ap length e, length-append r (rounds_records rs), full, some))
rounds_once per _ _ some (rounds.one_more r rs full rest) (rounds.last_one q also few) e = sym (last_alone per q r rs some few full rest (sym e))
rounds_once per _ _ some (rounds.one_more r rs full rest) (rounds.one_more q qs whole others) e =
    let parts = halves r (rounds_records rs) q (rounds_records qs) (omega (arith, full, whole)) e in
    ap (λ x. x ∷ rs) parts.0 ∙ ap (λ x. q ∷ x) (rounds_once per rs qs some rest others parts.1)

-- Full rounds of the first records of a file are its first rounds.
abbrev Has : ℕ → List Record → Type 0
Has per round = length round ≡ per

full_first : (per : ℕ) (fs rs : Rounds) (rest : List Record) → 1 ≤ per → AreFull per fs → AreRounds per rs → rounds_records rs ≡ rounds_records fs ++ rest
    → (others : Rounds) × (rs ≡ fs ++ others)
full_first per [] rs rest some full are e = (rs, refl)
full_first per (f ∷ fs) _ rest some full rounds.no_round e =
    let long : length f ≡ per = All-head (Has per) f fs full in
    absurd (omega (arith, ap length e, length-append (f ++ rounds_records fs) rest, length-append f (rounds_records fs), long, some))
full_first per (f ∷ fs) _ rest some full (rounds.last_one r has most) e =
    let long : length f ≡ per = All-head (Has per) f fs full in
    let is = last_is per r f fs rest most long (e ∙ append_assoc f (rounds_records fs) rest) in
    let none : fs ≡ [] = none_of_none per fs some (full_rounds per fs (All-tail (Has per) f fs full)) (none_before (rounds_records fs) rest is.1) in
    ([], ap (λ x. x ∷ []) is.0 ∙ ap (λ x. f ∷ x) (sym none) ∙ sym (append-nil (f ∷ fs)))
full_first per (f ∷ fs) _ rest some full (rounds.one_more r rs has are) e =
    let long : length f ≡ per = All-head (Has per) f fs full in
    let parts = halves r (rounds_records rs) f (rounds_records fs ++ rest) (omega (arith, has, long)) (e ∙ append_assoc f (rounds_records fs) rest) in
    let more = full_first per fs rs rest some (All-tail (Has per) f fs full) are parts.1 in
    (more.0, ap (λ x. x ∷ rs) parts.0 ∙ ap (λ x. f ∷ x) more.1)

-- ---- the first records of a file
-- What is left of its records; nothing, where no row is left.
record IsLeft (all some : List Record) (rest : List Row) : Type 0 where
  more : List Record
  are : all ≡ some ++ more
  none : rest ≡ [] → more ≡ []

nothing_left : (p : ScriptPlan) (header : Header) (n : ℕ) (rest : List Row) (more : List Record) → records_or_bad p header n rest ≡ Ok more → rest ≡ [] → more ≡ []
nothing_left p header n [] more is none = cc
nothing_left p header n (row ∷ rest) more is none = absurd (cc)

left_of : (p : ScriptPlan) (rules : FileRules) (first : ℕ) (bytes : List ℕ) (all some : List Record) → IsFine p rules first bytes all
    → (b : FileBegins p first (rows_by rules bytes) some) → IsLeft all some b.rest
left_of p rules first bytes _ some (files_are.empty size none) b =
    let no : [] ≡ b.row ∷ (b.taken ++ b.rest) = sym none ∙ b.reads in absurd (cc)
left_of p rules first bytes _ some (files_are.filled row rows header all size e is are) b =
    let both : row ∷ rows ≡ b.row ∷ (b.taken ++ b.rest) = sym e ∙ b.reads in
    let head : row ≡ b.row = cc in
    let tail : rows ≡ b.taken ++ b.rest = cc in
    let H : Row → Type 0 = λ r. IsHeader p r header in
    let same : ◌≡◌ {A = Result Header HeadFault} (Ok header) (Ok b.header) = sym (header_answered p b.row header (subst H head is)) ∙ header_answered p b.row b.header b.is_header in
    let one : header ≡ b.header = cc in
    let G : Header → Type 0 = λ h. HaveRecords p h first rows all in
    let others = records_or_bad p b.header (first + length b.taken) b.rest in
    let turn : in_turn (Ok some) others ≡ Ok all =
    ap (λ r. in_turn r others) (sym (records_answered p b.header first b.taken some b.have))
    ∙ sym (rows_append p b.header first b.taken b.rest)
    ∙ ap (records_or_bad p b.header first) (sym tail)
    ∙ records_answered p b.header first rows all (subst G one are) in
    let cut = turn_splits (Ok some) others all turn in
    let front : ◌≡◌ {A = Result (List Record) Bad} (Ok some) (Ok cut.0) = cut.2 in
    let here : some ≡ cut.0 = cc in
    record {
      more = cut.1;
      are = sym cut.4 ∙ ap (λ x. x ++ cut.1) (sym here);
      none = nothing_left p b.header (first + length b.taken) b.rest cut.1 cut.3;
    }

-- The rounds that were done of a file are its first rounds.
file_first : (p : ScriptPlan) (rules : FileRules) (per first : ℕ) (bytes : List ℕ) (all some : Rounds) → 1 ≤ per → IsFine p rules first bytes (rounds_records all) → AreRounds per all
    → (b : FileBegins p first (rows_by rules bytes) (rounds_records some)) → AreDone per some b.rest → (others : Rounds) × (all ≡ some ++ others)
file_first p rules per first bytes all some many fine are b (inl full) =
    let left = left_of p rules first bytes (rounds_records all) (rounds_records some) fine b in full_first per some all left.more many full are left.are
file_first p rules per first bytes all some many fine are b (inr ends) =
    let left = left_of p rules first bytes (rounds_records all) (rounds_records some) fine b in
    let same : rounds_records all ≡ rounds_records some = left.are ∙ ap (λ x. rounds_records some ++ x) (left.none ends.1) ∙ append-nil (rounds_records some) in
    ([], rounds_once per all some many are ends.0 same ∙ sym (append-nil some))

-- ---- files in order
module _ (p : ScriptPlan) (rules : FileRules) (per : ℕ) (some : 1 ≤ per) where
  -- The rounds of a first file, and then those of the others.
  record Goes (first : ℕ) (bytes : List ℕ) (files : List (List ℕ)) (all : Rounds) : Type 0 where
    here : Rounds
    others : Rounds
    are : all ≡ here ++ others
    fine : IsFine p rules first bytes (rounds_records here)
    each : AreRounds per here
    rest : AreFilesRounds p rules per (first + length (rounds_records here)) files others

  Have : ℕ → List (List ℕ) → Rounds → Type 0
  Have first [] all = all ≡ []
  Have first (bytes ∷ files) all = Goes first bytes files all

  have : (first : ℕ) (files : List (List ℕ)) (all : Rounds) → AreFilesRounds p rules per first files all → Have first files all
  unfolding Have
  have _ _ _ (rounds.no_file first) = refl
  have _ _ _ (rounds.one_more first bytes files here others fine are rest) =
      record { here = here; others = others; are = refl; fine = fine; each = are; rest = rest }

  same_file : (first : ℕ) (bytes : List ℕ) (rs qs : Rounds) → IsFine p rules first bytes (rounds_records rs) → AreRounds per rs → IsFine p rules first bytes (rounds_records qs) → AreRounds per qs → rs ≡ qs
  same_file first bytes rs qs fine are also others =
      let both : ◌≡◌ {A = Result (List Record) PassErr} (Ok (rounds_records rs)) (Ok (rounds_records qs)) =
      sym (fine_answered p rules 0 first bytes (rounds_records rs) fine) ∙ fine_answered p rules 0 first bytes (rounds_records qs) also in
      rounds_once per rs qs some are others (cc)

  -- The rounds of the first files, and those of the others.
  record AreCut (first : ℕ) (files : List (List ℕ)) (front all : Rounds) : Type 0 where
    more : Rounds
    are : all ≡ front ++ more
    rest : AreFilesRounds p rules per (first + length (rounds_records front)) files more

  cut_by : (told : List (List ℕ)) (first : ℕ) (files : List (List ℕ)) (front all : Rounds) → Have first told front → AreFilesRounds p rules per first (told ++ files) all → AreCut first files front all
  unfolding Have
  cut_by [] first files front all a b =
      let N : Rounds → Type 0 = λ rs. AreFilesRounds p rules per (first + length (rounds_records rs)) files all in
      let start : first ≡ first + 0 = omega arith in
      let M : ℕ → Type 0 = λ n. AreFilesRounds p rules per n files all in
      record { more = all; are = ap (λ rs. rs ++ all) (sym a); rest = subst N (sym a) (subst M start b) }
  cut_by (bytes ∷ told) first files front all a b =
      let c = have first (bytes ∷ (told ++ files)) all b in
      let one : a.here ≡ c.here = same_file first bytes a.here c.here a.fine a.each c.fine c.each in
      let R : Rounds → Type 0 = λ rs. AreFilesRounds p rules per (first + length (rounds_records rs)) (told ++ files) c.others in
      let next = first + length (rounds_records a.here) in
      let cut = cut_by told next files a.others c.others (have next told a.others a.rest) (subst R (sym one) c.rest) in
      let N : ℕ → Type 0 = λ n. AreFilesRounds p rules per n files cut.more in
      let both : length (rounds_records front) ≡ length (rounds_records a.here) + length (rounds_records a.others) =
      ap (λ rs. length (rounds_records rs)) a.are ∙ ap length (records_both a.here a.others) ∙ length-append (rounds_records a.here) (rounds_records a.others) in
      record {
        more = cut.more;
        are =
            c.are ∙ ap (λ rs. rs ++ c.others) (sym one)
            ∙ ap (λ rs. a.here ++ rs) cut.are
            ∙ sym (append_assoc a.here a.others cut.more)
            ∙ ap (λ rs. rs ++ cut.more) (sym a.are);
        rest = subst N (omega (arith, both)) cut.rest;
      }

  cut_at : (first : ℕ) (told files : List (List ℕ)) (front all : Rounds) → AreFilesRounds p rules per first told front → AreFilesRounds p rules per first (told ++ files) all → AreCut first files front all
  cut_at first told files front all a b = cut_by told first files front all (have first told front a) b

  no_more : (first : ℕ) (more : Rounds) → AreFilesRounds p rules per first [] more → more ≡ []
  unfolding Have
  no_more first more are = have first [] more are

  first_file : (first : ℕ) (bytes : List ℕ) (files : List (List ℕ)) (all : Rounds) → AreFilesRounds p rules per first (bytes ∷ files) all → Goes first bytes files all
  unfolding Have
  first_file first bytes files all are = have first (bytes ∷ files) all are

  pub files_once : (first : ℕ) (files : List (List ℕ)) (all others : Rounds) → AreFilesRounds p rules per first files all → AreFilesRounds p rules per first files others → all ≡ others
  files_once first files all others a b =
      let F : List (List ℕ) → Type 0 = λ fs. AreFilesRounds p rules per first fs others in
      let cut = cut_at first files [] all others a (subst F (sym (append-nil files)) b) in
      let none : cut.more ≡ [] = no_more (first + length (rounds_records all)) cut.more cut.rest in
      sym (cut.are ∙ ap (λ rs. all ++ rs) none ∙ append-nil all)

-- The records of the rounds of files are those of the files.
pub rounds_fine : (p : ScriptPlan) (rules : FileRules) (per first : ℕ) (files : List (List ℕ)) (all : Rounds) → AreFilesRounds p rules per first files all → AllFine p rules first files (rounds_records all)
rounds_fine p rules per _ _ _ (rounds.no_file first) = problems.no_file first
rounds_fine p rules per _ _ _ (rounds.one_more first bytes files here others fine are rest) =
    subst (λ (rs : List Record). AllFine p rules first (bytes ∷ files) rs) (sym (records_both here others))
    (problems.one_more first bytes files (rounds_records here) (rounds_records others) fine (rounds_fine p rules per (first + length (rounds_records here)) files others rest))

-- ---- files that contracts see
-- The first files that the names may hold are those that they hold.
pub first_told : (holds : Holds) (k : ℕ) (names files told : List (List ℕ)) → map holds names ≡ map Some files → MayAll holds (take k names) told → told ≡ take k files
first_told holds zero names files [] see may = refl
first_told holds zero names files (t ∷ told) see may = absurd may
first_told holds (suc k) [] [] [] see may = refl
first_told holds (suc k) [] [] (t ∷ told) see may = absurd may
first_told holds (suc k) [] (f ∷ files) told see may = absurd (cc)
first_told holds (suc k) (n ∷ names) [] told see may = absurd (cc)
first_told holds (suc k) (n ∷ names) (f ∷ files) [] see may = absurd may
first_told holds (suc k) (n ∷ names) (f ∷ files) (t ∷ told) see may =
    let here : holds n ≡ Some f = cc in
    let rest : map holds names ≡ map Some files = cc in
    let M : Option (List ℕ) → Type 0 = λ o. May o t in
    let same : t ≡ f = subst M here may.0 in
    ap (λ x. x ∷ told) same ∙ ap (λ x. f ∷ x) (first_told holds k names files told rest may.1)

named_file : (holds : Holds) (k : ℕ) (names files : List (List ℕ)) (name bytes : List ℕ) → map holds names ≡ map Some files → slice_get names k ≡ Some name → May (holds name) bytes → slice_get files k ≡ Some bytes
named_file holds k [] files name bytes see at may = absurd (cc)
named_file holds k (n ∷ names) [] name bytes see at may = absurd (cc)
named_file holds zero (n ∷ names) (f ∷ files) name bytes see at may =
    let same : n ≡ name = cc in
    let here : holds n ≡ Some f = cc in
    let M : Option (List ℕ) → Type 0 = λ o. May o bytes in
    let is : bytes ≡ f = subst M (ap holds (sym same) ∙ here) may in
    ap Some (sym is)
named_file holds (suc k) (n ∷ names) (f ∷ files) name bytes see at may =
    let rest : map holds names ≡ map Some files = cc in
    named_file holds k names files name bytes rest at may

module _ (w : NamedFiles) (files : List (List ℕ)) (all : Rounds) (some : 1 ≤ w.per) (see : map w.holds w.names ≡ map Some files) (are : AreFilesRounds w.plan w.rules w.per w.first files all) where
  -- The rounds of the first files are the first rounds.
  front_of : (file : ℕ) (rs : Rounds) → DoneFiles w file rs → AreCut w.plan w.rules w.per some w.first (drop file files) rs all
  front_of file rs done =
      let told : done.files ≡ take file files = first_told w.holds file w.names files done.files see done.may in
      let F : List (List ℕ) → Type 0 = λ fs. AreFilesRounds w.plan w.rules w.per w.first fs rs in
      let G : List (List ℕ) → Type 0 = λ fs. AreFilesRounds w.plan w.rules w.per w.first fs all in
      cut_at w.plan w.rules w.per some w.first (take file files) (drop file files) rs all (subst F told done.are) (subst G (sym (take-append-drop file files)) are)

  -- And then those that were done of the next file.
  pub done_first : (file : ℕ) (rs others : Rounds) → DoneFiles w file rs → (others ≡ []) ⊎ DoneRounds w file (w.first + length (rounds_records rs)) others
      → IsPrefix (rs ++ others) all
  done_first file rs others done (inl none) =
      let cut = front_of file rs done in (cut.more, ap (λ x. (rs ++ x) ++ cut.more) none ∙ ap (λ x. x ++ cut.more) (append-nil rs) ∙ sym cut.are)
  done_first file rs others done (inr next) =
      let cut = front_of file rs done in
      let b = next.begins in
      let at : slice_get files file ≡ Some b.bytes = named_file w.holds file w.names files b.name b.bytes see b.named b.may in
      let first = w.first + length (rounds_records rs) in
      let F : List (List ℕ) → Type 0 = λ fs. AreFilesRounds w.plan w.rules w.per first fs cut.more in
      let g = first_file w.plan w.rules w.per some first b.bytes (drop (file + 1) files) cut.more (subst F (drop_at files file b.bytes at) cut.rest) in
      let more = file_first w.plan w.rules w.per first b.bytes g.here others some g.fine g.each b.begins next.done in (
        more.0 ++ g.others,
        append_assoc rs others (more.0 ++ g.others)
            ∙ ap (λ x. rs ++ x) (sym (append_assoc others more.0 g.others) ∙ ap (λ x. x ++ g.others) (sym more.1) ∙ sym g.are)
            ∙ sym cut.are,
      )
