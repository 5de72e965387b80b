-- The files so far, and what comes of the next one.
use Rattle.std.proofs.Common.{◌≡◌, ◌∙◌, Vec, Global, refl, sym, ap, subst, ℕ, zero, suc, ◌+◌, ◌≤◌, ◌<◌, arith, inl, inr, List, [], ◌∷◌, ◌++◌, length, take, drop, map, Option, Some, None, IfSome, Result, Ok, Err, slice_get, replicate}
use Rattle.std.specs.Option.{unwrap_or}
use Rattle.std.specs.Result.{IsErrAnd}
use Rattle.std.proofs.lemmas.List.{map-append, take-append-drop, take_all, length-replicate}
use Rattle.std.proofs.lemmas.List.Elements.{length_all_zip}
use Rattle.std.proofs.Math.Seq.{take-append_seam}
use Rattle.sym_base.specs.Counts.{Rose}
use Rattle.sym_check.specs.Plan.ScriptPlans.{ScriptPlan}
use Rattle.sym_files.specs.Passing.{Counts, Holds, May, MayAll}
use Rattle.sym_run.specs.declared.saved.Saved.{Saved}
use Rattle.sym_reduce.specs.declared.error.ReduceErr.{ReduceErr}
use Rattle.sym_reduce.specs.declared.error.ReduceErr.TheVariants as reduce_err
use Rattle.sym_file.specs.TakenTexts.{Pairs}
use Rattle.sym_reduce.specs.Reducing.{AreReduced, FailsAt, FirstRunProblem, HasFault, HasFirstRunProblem, HasRunProblem, IsTakenFile, IsUnread, ReducedAll, StopsReduce, TakesFile}
use Rattle.sym_reduce.specs.Reducing as runs

-- ---- bytes that files may hold
may_one : (o : Option (List ℕ)) → May o (unwrap_or o [])
may_one None = tt
may_one (Some bytes) = refl

-- Some bytes for each name.
abbrev pub some_files : Holds → List (List ℕ) → List (List ℕ)
some_files holds names = map (λ name. unwrap_or (holds name) []) names

pub may_some : (holds : Holds) (names : List (List ℕ)) → MayAll holds names (some_files holds names)
may_some holds [] = tt
may_some holds (name ∷ names) = (may_one (holds name), may_some holds names)

pub may_both : (holds : Holds) (names others told more : List (List ℕ)) → MayAll holds names told → MayAll holds others more → MayAll holds (names ++ others) (told ++ more)
may_both holds [] others [] more a b = b
may_both holds [] others (t ∷ told) more a b = absurd a
may_both holds (n ∷ names) others [] more a b = absurd a
may_both holds (n ∷ names) others (t ∷ told) more a b = (a.0, may_both holds names others told more a.1 b)

pub may_whole : (holds : Holds) (names told more : List (List ℕ)) (k : ℕ) → MayAll holds (take k names) told → MayAll holds (drop k names) more → MayAll holds names (told ++ more)
may_whole holds names told more k a b =
    let P : List (List ℕ) → Type 0 = λ ns. MayAll holds ns (told ++ more) in
    subst P (take-append-drop k names) (may_both holds (take k names) (drop k names) told more a b)

-- The name at a place, and those after it.
pub drop_at : (names : List (List ℕ)) (k : ℕ) (name : List ℕ) → slice_get names k ≡ Some name → drop k names ≡ name ∷ drop (k + 1) names
drop_at [] k name e = absurd (cc)
drop_at (n ∷ names) zero name e = let same : n ≡ name = cc in ap (λ x. x ∷ names) same
drop_at (n ∷ names) (suc k) name e =
    let more : suc (k + 1) ≡ suc k + 1 = omega arith in
    drop_at names k name e ∙ ap (λ m. name ∷ drop m (n ∷ names)) more

pub take_at : (names : List (List ℕ)) (k : ℕ) (name : List ℕ) → slice_get names k ≡ Some name → take (k + 1) names ≡ take k names ++ name ∷ []
take_at [] k name e = absurd (cc)
take_at (n ∷ names) zero name e = let same : n ≡ name = cc in ap (λ x. x ∷ []) same
take_at (n ∷ names) (suc k) name e =
    let more : suc k + 1 ≡ suc (k + 1) = omega arith in
    ap (λ m. take m (n ∷ names)) more ∙ ap (λ ns. n ∷ ns) (take_at names k name e)

-- One more name, and its file.
pub may_next : (holds : Holds) (names told : List (List ℕ)) (k : ℕ) (name bytes : List ℕ) → MayAll holds (take k names) told → slice_get names k ≡ Some name → May (holds name) bytes
    → MayAll holds (take (k + 1) names) (told ++ bytes ∷ [])
may_next holds names told k name bytes may at one =
    let P : List (List ℕ) → Type 0 = λ ns. MayAll holds ns (told ++ bytes ∷ []) in
    subst P (sym (take_at names k name at)) (may_both holds (take k names) (name ∷ []) told (bytes ∷ []) may (one, tt))

-- The same of texts.
pub texts_next : (holds : Holds) (names : List (List ℕ)) (texts more : List (Vec ℕ Global)) (text : Vec ℕ Global) (k n : ℕ) (name : List ℕ)
    → MayAll holds (take k names) (map (λ (text : Vec ℕ Global). text.items) texts) → slice_get names k ≡ Some name → May (holds name) text.items → more ≡ texts ++ text ∷ [] → n ≡ k + 1
    → MayAll holds (take n names) (map (λ (text : Vec ℕ Global). text.items) more)
texts_next holds names texts more text k n name may at one is count =
    let view : Vec ℕ Global → List ℕ = λ text. text.items in
    let P : List (List ℕ) → Type 0 = λ fs. MayAll holds (take (k + 1) names) fs in
    let Q : ℕ → Type 0 = λ m. MayAll holds (take m names) (map (λ (text : Vec ℕ Global). text.items) more) in
    let e : map view more ≡ map view texts ++ text.items ∷ [] = ap (λ (ts : List (Vec ℕ Global)). map view ts) is ∙ map-append view texts (text ∷ []) in
    subst Q (sym count) (subst P (sym e) (may_next holds names (map view texts) k name text.items may at one))

within : (names : List (List ℕ)) (k : ℕ) (name : List ℕ) → slice_get names k ≡ Some name → length (take k names) ≡ k
within [] k name e = absurd (cc)
within (n ∷ names) zero name e = refl
within (n ∷ names) (suc k) name e = let more = within names k name e in omega (arith, more)

pub told_count : (holds : Holds) (names told : List (List ℕ)) (k : ℕ) (name : List ℕ) → MayAll holds (take k names) told → slice_get names k ≡ Some name → length told ≡ k
told_count holds names told k name may at =
    sym (length_all_zip (λ n bytes. May (holds n) bytes) (take k names) told may) ∙ within names k name at

-- More bytes than are allowed, which the file may hold.
pub larger : (max : ℕ) (o : Option (List ℕ)) → IfSome o (λ bytes. max < length bytes) → (bytes : List ℕ) × May o bytes × (max < length bytes)
larger max None h = (replicate (max + 1) 0, tt, omega (arith, length-replicate {A = ℕ} (max + 1) 0))
larger max (Some bytes) h = (bytes, refl, h)

pub rose_later : (a b c : ℕ) → a ≤ b → Rose b c → Rose a c
rose_later a b c h rose = omega arith

module _ (script : List ℕ) (p : ScriptPlan) (max_bytes : ℕ) where
  -- ---- files after files
  reduced_then : (next : ℕ) (totals : Pairs) (told : List (List ℕ)) (middle : ℕ) (now : Pairs) (more : List (List ℕ)) (end : ℕ) (all : Pairs)
      → AreReduced script p max_bytes next totals told middle now → AreReduced script p max_bytes middle now more end all
      → AreReduced script p max_bytes next totals (told ++ more) end all
  reduced_then _ _ _ _ _ more end all (runs.no_file next totals) onward = onward
  reduced_then _ _ _ _ _ more end all (runs.one_more next totals bytes files saved led middle now few is rest) onward =
      runs.one_more next totals bytes (files ++ more) saved led end all few is (reduced_then saved.next led files middle now more end all rest onward)

  problem_then : (file next : ℕ) (totals : Pairs) (told : List (List ℕ)) (middle : ℕ) (now : Pairs) (more : List (List ℕ)) (why : ReduceErr)
      → AreReduced script p max_bytes next totals told middle now → FirstRunProblem script p max_bytes (file + length told) middle now more why
      → FirstRunProblem script p max_bytes file next totals (told ++ more) why
  problem_then file _ _ _ _ _ more why (runs.no_file next totals) is =
      let as_file : file + 0 ≡ file = omega arith in
      let P : ℕ → Type 0 = λ n. FirstRunProblem script p max_bytes n next totals more why in subst P as_file is
  problem_then file _ _ _ _ _ more why (runs.one_more next totals bytes files saved led middle now few is rest) found =
      let as_file : file + length (bytes ∷ files) ≡ file + 1 + length files = omega arith in
      let P : ℕ → Type 0 = λ n. FirstRunProblem script p max_bytes n middle now more why in
      runs.later file next totals bytes (files ++ more) saved led why few is
      (problem_then (file + 1) saved.next led files middle now more why rest (subst P as_file found))

  -- ---- how far files are taken
  pub record IsReducing (holds : Holds) (names : List (List ℕ)) (k next : ℕ) (totals : Pairs) : Type 0 where
    pub told : List (List ℕ)
    pub may : MayAll holds (take k names) told
    pub reduced : AreReduced script p max_bytes 1 [] told next totals

  pub begins : (holds : Holds) (names : List (List ℕ)) (totals : Pairs) → totals ≡ [] → IsReducing holds names 0 1 totals
  begins holds names totals none =
      let P : Pairs → Type 0 = λ ts. IsReducing holds names 0 1 ts in
      subst P (sym none) (record { told = []; may = tt; reduced = runs.no_file 1 [] })

  pub goes_on : (holds : Holds) (names : List (List ℕ)) (k next after : ℕ) (totals more : Pairs) (name bytes : List ℕ) (saved : Saved)
      → IsReducing holds names k next totals → slice_get names k ≡ Some name → May (holds name) bytes → length bytes ≤ max_bytes
      → IsTakenFile script p next totals bytes saved more → after ≡ saved.next → IsReducing holds names (k + 1) after more
  goes_on holds names k next after totals more name bytes saved is at may size led follows =
      let P : List (List ℕ) → Type 0 = λ ns. MayAll holds ns (is.told ++ bytes ∷ []) in
      let Q : ℕ → Type 0 = λ n. AreReduced script p max_bytes 1 [] (is.told ++ bytes ∷ []) n more in
      record {
        told = is.told ++ bytes ∷ [];
        may = subst P (sym (take_at names k name at)) (may_both holds (take k names) (name ∷ []) is.told (bytes ∷ []) is.may (may, tt));
        reduced =
            subst Q (sym follows)
            (reduced_then 1 [] is.told next totals (bytes ∷ []) saved.next more is.reduced
            (runs.one_more next totals bytes [] saved more saved.next more size led (runs.no_file saved.next more)));
      }

  pub ends : (holds : Holds) (names : List (List ℕ)) (k next : ℕ) (totals : Pairs) → IsReducing holds names k next totals → length names ≤ k
      → ReducedAll script p max_bytes holds names totals
  ends holds names k next totals is all =
      let P : List (List ℕ) → Type 0 = λ ns. MayAll holds ns is.told in
      record {
        files = is.told;
        may = subst P (take_all k names all) is.may;
        end = next;
        reduced = is.reduced;
      }

  -- ---- why files aren't taken
  stops_at : (holds : Holds) (names : List (List ℕ)) (k next : ℕ) (totals : Pairs) (name bytes : List ℕ) (why : ReduceErr)
      → IsReducing holds names k next totals → slice_get names k ≡ Some name → May (holds name) bytes
      → HasRunProblem script p max_bytes next k totals bytes why → HasFirstRunProblem script p max_bytes holds names why
  stops_at holds names k next totals name bytes why is at may found =
      let count = told_count holds names is.told k name is.may at in
      let as_file : k ≡ 0 + length is.told = omega (arith, count) in
      let rest = some_files holds (drop (k + 1) names) in
      let P : ℕ → Type 0 = λ m. FirstRunProblem script p max_bytes m next totals (bytes ∷ rest) why in
      let R : List (List ℕ) → Type 0 = λ ns. MayAll holds ns (bytes ∷ rest) in
      record {
        files = is.told ++ bytes ∷ rest;
        may = may_whole holds names is.told (bytes ∷ rest) k is.may (subst R (sym (drop_at names k name at)) (may, may_some holds (drop (k + 1) names)));
        problem = problem_then 0 1 [] is.told next totals (bytes ∷ rest) why is.reduced (subst P as_file (runs.here k next totals bytes rest why found));
      }

  fails_at : (holds : Holds) (names : List (List ℕ)) (before after : Counts) (k next : ℕ) (totals : Pairs) (name : List ℕ)
      → IsReducing holds names k next totals → slice_get names k ≡ Some name → Rose (before name) (after name) → FailsAt script p max_bytes holds names before after k
  fails_at holds names before after k next totals name is at rose =
      let count = told_count holds names is.told k name is.may at in
      let rest = some_files holds (drop k names) in
      let P : List (List ℕ) → Type 0 = λ fs. AreReduced script p max_bytes 1 [] fs next totals in
      let front : take k (is.told ++ rest) ≡ is.told = ap (λ m. take m (is.told ++ rest)) (sym count) ∙ take-append_seam is.told rest in
      record {
        files = is.told ++ rest;
        may = may_whole holds names is.told rest k is.may (may_some holds (drop k names));
        end = next;
        totals = totals;
        reduced = subst P (sym front) is.reduced;
        name = name;
        named = at;
        rose = rose;
      }

  -- The file wasn't read.
  pub unread_stops : (holds : Holds) (names : List (List ℕ)) (before during after : Counts) (k next : ℕ) (totals : Pairs) (name : List ℕ) (why : ReduceErr)
      → IsReducing holds names k next totals → slice_get names k ≡ Some name → before name ≤ during name
      → IsUnread max_bytes k (holds name) (during name) (after name) why → StopsReduce script p max_bytes holds names before after why
  unread_stops holds names before during after k next totals name (reduce_err.Read file) is at later unread =
      let P : ℕ → Type 0 = λ m. FailsAt script p max_bytes holds names before after m in
      subst P (sym unread.0) (fails_at holds names before after k next totals name is at (rose_later (before name) (during name) (after name) later unread.1))
  unread_stops holds names before during after k next totals name (reduce_err.TooLarge file) is at later unread =
      let large = larger max_bytes (holds name) unread.1 in
      let P : ℕ → Type 0 = λ m. HasFirstRunProblem script p max_bytes holds names (reduce_err.TooLarge m) in
      subst P (sym unread.0) (stops_at holds names k next totals name large.0 (reduce_err.TooLarge k) is at large.1 (runs.too_large large.2))
  unread_stops holds names before during after k next totals name (reduce_err.OtherScript file) is at later unread = absurd unread
  unread_stops holds names before during after k next totals name (reduce_err.Malformed file) is at later unread = absurd unread
  unread_stops holds names before during after k next totals name (reduce_err.Apart file) is at later unread = absurd unread
  unread_stops holds names before during after k next totals name (reduce_err.Gap file group) is at later unread = absurd unread
  unread_stops holds names before during after k next totals name reduce_err.NoMemory is at later unread = tt

  -- The file has a runs.
  faulty_stops : (holds : Holds) (names : List (List ℕ)) (before after : Counts) (k next : ℕ) (totals : Pairs) (name bytes : List ℕ) (why : ReduceErr)
      → IsReducing holds names k next totals → slice_get names k ≡ Some name → May (holds name) bytes → length bytes ≤ max_bytes
      → HasFault script p next k totals bytes why → StopsReduce script p max_bytes holds names before after why
  faulty_stops holds names before after k next totals name bytes _ is at may size (runs.other_script other) =
      stops_at holds names k next totals name bytes (reduce_err.OtherScript k) is at may (runs.faulty (reduce_err.OtherScript k) size (runs.other_script other))
  faulty_stops holds names before after k next totals name bytes _ is at may size (runs.malformed none) =
      stops_at holds names k next totals name bytes (reduce_err.Malformed k) is at may (runs.faulty (reduce_err.Malformed k) size (runs.malformed none))
  faulty_stops holds names before after k next totals name bytes _ is at may size (runs.apart saved file other) =
      stops_at holds names k next totals name bytes (reduce_err.Apart k) is at may (runs.faulty (reduce_err.Apart k) size (runs.apart saved file other))
  faulty_stops holds names before after k next totals name bytes _ is at may size (runs.gap saved group file follows found) =
      stops_at holds names k next totals name bytes (reduce_err.Gap k (group + 1)) is at may
      (runs.faulty (reduce_err.Gap k (group + 1)) size (runs.gap saved group file follows found))

  pub untaken_stops : (holds : Holds) (names : List (List ℕ)) (before after : Counts) (k next : ℕ) (totals : Pairs) (name bytes : List ℕ) (why : ReduceErr)
      → IsReducing holds names k next totals → slice_get names k ≡ Some name → May (holds name) bytes → length bytes ≤ max_bytes
      → TakesFile script p next k totals bytes (Err why) → StopsReduce script p max_bytes holds names before after why
  untaken_stops holds names before after k next totals name bytes why is at may size (inl same) =
      let P : ReduceErr → Type 0 = λ w. StopsReduce script p max_bytes holds names before after w in subst P (sym same) tt
  untaken_stops holds names before after k next totals name bytes why is at may size (inr found) =
      faulty_stops holds names before after k next totals name bytes why is at may size found

-- ---- bytes as the code has them
pub unread_as : (max k : ℕ) (now holds : Holds) (name : List ℕ) (before after : ℕ) (why : ReduceErr) → now ≡ holds → IsUnread max k (now name) before after why
    → IsUnread max k (holds name) before after why
unread_as max k now holds name before after why same unread =
    let P : Holds → Type 0 = λ h. IsUnread max k (h name) before after why in subst P same unread

-- An error that is passed on is the one that was met.
pub fails_as : {A : Type 0} (r : Result A ReduceErr) (why : ReduceErr) (P : Result A ReduceErr → Type 0) → IsErrAnd r (λ e. e ≡ why) → P (Err why) → P r
fails_as (Ok x) why P is holds = absurd is
fails_as (Err e) why P is holds = let Q : ReduceErr → Type 0 = λ x. P (Err x) in subst Q (sym is) holds
