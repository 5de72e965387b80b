-- The saved runs so far in one, and what comes of the next file.
use Rattle.std.proofs.Common.{◌≡◌, ◌∙◌, refl, sym, ap, subst, ℕ, zero, suc, ◌+◌, ◌≤◌, ◌<◌, ◌^◌, ◌⊎◌, arith, inl, inr, List, [], ◌∷◌, ◌++◌, length, take, drop, append-nil, not, Option, Some, None, slice_get}
use Rattle.std.proofs.lemmas.Grind.{flat_map-append}
use Rattle.std.proofs.lemmas.List.{take_all}
use Rattle.std.proofs.lemmas.List.Elements.{All-append, All-cons, All-filter, All-head, All-nil, All-tail}
use Rattle.std.proofs.Math.Seq.{take-append_seam}
use Rattle.std.specs.List.{All, AllZip, flat_map}
use Rattle.std.specs.Map.{keys_of}
use Rattle.sym_base.specs.Counts.{Rose}
use Rattle.sym_base.specs.declared.values.record.Record.{Record}
use Rattle.sym_base.specs.declared.values.value.Key.{Key}
use Rattle.sym_check.specs.Plan.ScriptPlans.{ScriptPlan}
use Rattle.sym_check.specs.Plan.WellFormed.{IsWellFormed}
use Rattle.sym_check.proofs.GroupLaws.{keys_apart}
use Rattle.sym_check.specs.Meaning.Groups.{is_among, not_among}
use Rattle.sym_check.specs.Meaning.Validity.{IsKey, IsRecord}
use Rattle.sym_run.proofs.LawfulRuns.{keyed_saved_lawful}
use Rattle.sym_files.specs.Passing.{Counts, Holds, May, MayAll}
use Rattle.sym_file.proofs.Taking.{lawful_closed}
use Rattle.sym_file.specs.Places.{AreTextsJoined}
use Rattle.sym_file.specs.Places as places
use Rattle.sym_file.specs.TakenTexts.{IsRunFile}
use Rattle.sym_run.specs.Chained.{Chained}
use Rattle.sym_run.specs.ClosedJoins.{IsJoinable, IsSavedJoin}
use Rattle.sym_run.specs.Growing.{AreBoth}
use Rattle.sym_plain.specs.Pairs.{HaveDistinctKeys}
use Rattle.sym_run.specs.Runs.{AreTight, GroupsStandFor}
use Rattle.sym_run.specs.SavedRuns.{IsLawfulGroup, IsLawfulSaved, SavedStandsFor}
use Rattle.sym_run.specs.declared.saved.Saved.{Saved}
use Rattle.sym_run.proofs.TightChains.{all_front, all_last}
use Rattle.sym_reduce.specs.declared.error.ReduceErr.{ReduceErr}
use Rattle.sym_reduce.specs.declared.error.ReduceErr.TheVariants as reduce_err
use Rattle.sym_reduce.specs.Joining.{AreFilesJoined, AreFollowing, AreRunFiles, Begins, FirstFileProblem, FirstJoinProblem, Follows, HasFaultAfter, HasJoinProblem, HasRunFault, IsFaultyAt, IsFileJoined, IsJoinOf, IsJoining, IsNextOf, IsOnlyOf, IsUnreadAt, JoinFailsAt, JoinedAll, JoinsNext, SoFar, StandForParts, StopsFiles, StopsJoin, next_of}
use Rattle.sym_reduce.specs.Joining as joins
use Rattle.sym_reduce.specs.Reducing.{IsUnread}
use Rattle.sym_reduce.proofs.Files.{drop_at, larger, may_both, may_some, may_whole, rose_later, some_files, take_at, told_count}
use Rattle.sym_reduce.proofs.FollowingFiles.{first_at}
use Rattle.sym_reduce.proofs.Once.{same}

-- ---- what was read
-- A lawful saved run can be joined.
pub lawful_joinable : (p : ScriptPlan) (saved : Saved) → IsLawfulSaved p saved → IsJoinable p saved
lawful_joinable p saved h = record {
  fits = λ k d near.
      let chain = (h.each k d near).chain in
      record {
        segments = λ j e there. λ i f here. ((chain.each j e there).each i f here).fits;
        kept = subst (All (IsRecord p)) (sym chain.closed) (All-nil (IsRecord p));
      };
  closed = lawful_closed p saved.first saved.next saved.groups h.each;
}

-- A fault that doesn't depend on where the file has to begin.
pub faulty_after : (script : List ℕ) (p : ScriptPlan) (next : Option ℕ) (file : ℕ) (bytes : List ℕ) (why : ReduceErr) → ((n : ℕ) → HasRunFault script p n file bytes why) → HasFaultAfter script p next file bytes why
faulty_after script p None file bytes why h = h
faulty_after script p (Some next) file bytes why h = h next

-- ---- saved runs in one
abbrev records_of_all : List (List Record) → List Record
records_of_all parts = flat_map (λ (part : List Record). part) parts

records_last : (parts : List (List Record)) (part : List Record) → records_of_all (parts ++ part ∷ []) ≡ records_of_all parts ++ part
records_last parts part = flat_map-append (λ (part : List Record). part) parts (part ∷ []) ∙ ap (λ (rs : List Record). records_of_all parts ++ rs) (append-nil part)

zip_last : {A B : Type 0} (R : A → B → Type 0) (xs : List A) (ys : List B) (y : B) → AllZip R xs (ys ++ y ∷ []) → (front : List A) × (x : A) × (xs ≡ front ++ x ∷ []) × AllZip R front ys × R x y
zip_last R [] [] y h = absurd h
zip_last R (x ∷ []) [] y h = ([], x, refl, tt, h.0)
zip_last R (x ∷ other ∷ xs) [] y h = absurd h.1
zip_last R [] (z ∷ ys) y h = absurd h
zip_last R (x ∷ xs) (z ∷ ys) y h =
    let cut = zip_last R xs ys y h.1 in
    (x ∷ cut.0, cut.1, ap (λ rest. x ∷ rest) cut.2, (h.0, cut.3), cut.4)

next_last : (runs : List Saved) (saved : Saved) (n : ℕ) → n ≡ saved.next → IsNextOf (runs ++ saved ∷ []) n
next_last [] saved n e = e
next_last (run ∷ []) saved n e = e
next_last (run ∷ other ∷ runs) saved n e = next_last (other ∷ runs) saved n e

only_last : (run : Saved) (runs : List Saved) (saved joined : Saved) → IsOnlyOf (run ∷ runs ++ saved ∷ []) joined
only_last run [] saved joined = tt
only_last run (other ∷ runs) saved joined = tt

module _ (p : ScriptPlan) (limit : ℕ) where
  -- The join of no saved runs has no records.
  join_none : (saved : Saved) → saved.first ≡ 1 → saved.next ≡ 1 → saved.groups ≡ [] → IsJoinOf p limit [] saved
  join_none saved first next groups = record {
    first = tt;
    next = tt;
    only = tt;
    stands = stands;
    lawful = λ parts h. record {
      from = omega (arith, first);
      order = omega (arith, first, next);
      distinct = subst (λ (gs : List (Key × Chained)). HaveDistinctKeys gs) (sym groups) (keys_apart p []);
      each = subst (All (IsLawfulGroup p saved.first saved.next)) (sym groups) (All-nil (IsLawfulGroup p saved.first saved.next));
    };
    tight = λ parts h all. subst (AreTight p limit) (sym groups) (All-nil _);
  }
    where
      stands : (parts : List (List Record)) → StandForParts p parts [] → SavedStandsFor p (records_of_all parts) saved
      stands [] h = record { numbered = first ∙ sym next; groups = subst (GroupsStandFor p []) (sym groups) (record { keys_are = refl; each = All-nil _ }) }
      stands (part ∷ parts) h = absurd h

  -- One saved run is the join of itself alone.
  pub join_one : (saved joined : Saved) → joined ≡ saved → IsLawfulSaved p saved → IsJoinOf p limit (saved ∷ []) joined
  join_one saved joined is lawful = subst (IsJoinOf p limit (saved ∷ [])) (sym is) (record {
    first = refl;
    next = refl;
    only = refl;
    stands = λ parts h.
        let cut = zip_last (SavedStandsFor p) parts [] saved h in
        let none : cut.0 ≡ [] = nothing cut.0 cut.3 in
        subst (λ (rs : List Record). SavedStandsFor p rs saved)
        (sym (ap records_of_all cut.2 ∙ records_last cut.0 cut.1 ∙ ap (λ (ps : List (List Record)). records_of_all ps ++ cut.1) none)) cut.4;
    lawful = λ parts h. lawful;
    tight = λ parts h all. All-head (λ (run : Saved). AreTight p limit run.groups) saved [] all;
  })
    where
      nothing : (front : List (List Record)) → AllZip (SavedStandsFor p) front [] → front ≡ []
      nothing [] h = refl
      nothing (part ∷ front) h = absurd h

  keys_kinds : (first next : ℕ) (groups : List (Key × Chained)) → All (IsLawfulGroup p first next) groups → All (IsKey p) (keys_of groups)
  keys_kinds first next [] all = All-nil (IsKey p)
  keys_kinds first next (group ∷ groups) all =
      All-cons (IsKey p) group.0 (keys_of groups) (All-head (IsLawfulGroup p first next) group groups all).key (keys_kinds first next groups (All-tail (IsLawfulGroup p first next) group groups all))

  -- The keys of both are of the script's kinds.
  both_kinds : (left right joined : Saved) → IsLawfulSaved p left → IsLawfulSaved p right → AreBoth p left.groups right.groups joined.groups → All (IsKey p) (keys_of joined.groups)
  both_kinds left right joined a b both =
      subst (All (IsKey p)) (sym both.keys_are)
      (All-append (IsKey p) (keys_of left.groups) (not_among (keys_of left.groups) (keys_of right.groups)) (keys_kinds left.first left.next left.groups a.each)
      (All-filter (λ (key : Key). not (is_among key (keys_of left.groups))) (IsKey p) (keys_of right.groups) (keys_kinds right.first right.next right.groups b.each)))

  -- One more at the end.
  join_more : (run : Saved) (runs : List Saved) (before saved joined : Saved) → IsWellFormed p → IsJoinOf p limit (run ∷ runs) before → IsLawfulSaved p saved → IsJoinable p joined → IsSavedJoin p limit before saved joined
      → IsJoinOf p limit (run ∷ runs ++ saved ∷ []) joined
  join_more run runs before saved joined formed h lawful able j = record {
    first = j.first_is ∙ h.first;
    next = next_last (run ∷ runs) saved joined.next j.next_is;
    only = only_last run runs saved joined;
    stands = λ parts z.
        let cut = zip_last (SavedStandsFor p) parts (run ∷ runs) saved z in
        subst (λ (rs : List Record). SavedStandsFor p rs joined) (sym (ap records_of_all cut.2 ∙ records_last cut.0 cut.1))
        (j.stands (records_of_all cut.0) cut.1 (h.stands cut.0 cut.3) cut.4);
    lawful = λ parts z.
        let cut = zip_last (SavedStandsFor p) parts (run ∷ runs) saved z in
        let old = h.lawful cut.0 cut.3 in
        keyed_saved_lawful p (records_of_all cut.0 ++ cut.1) joined formed (subst (λ (n : ℕ). 1 ≤ n) (sym j.first_is) old.from) able.closed
        (j.stands (records_of_all cut.0) cut.1 (h.stands cut.0 cut.3) cut.4) (both_kinds before saved joined old lawful j.both);
    tight = λ parts z all.
        let cut = zip_last (SavedStandsFor p) parts (run ∷ runs) saved z in
        j.tight (records_of_all cut.0) cut.1 (h.stands cut.0 cut.3) cut.4
        (h.tight cut.0 cut.3 (all_front (λ (run : Saved). AreTight p limit run.groups) (run ∷ runs) saved all))
        (all_last (λ (run : Saved). AreTight p limit run.groups) (run ∷ runs) saved all);
  }

module _ (script : List ℕ) (p : ScriptPlan) (max_bytes limit : ℕ) where
  -- ---- files after files
  following_then : (next : ℕ) (told : List (List ℕ)) (runs : List Saved) (middle : ℕ) (more : List (List ℕ)) (others : List Saved) (end : ℕ)
      → AreFollowing script p max_bytes next told runs middle → AreFollowing script p max_bytes middle more others end
      → AreFollowing script p max_bytes next (told ++ more) (runs ++ others) end
  following_then _ _ _ _ more others end (joins.no_file next) onward = onward
  following_then _ _ _ _ more others end (joins.one_more next bytes files saved runs middle few own first rest) onward =
      joins.one_more next bytes (files ++ more) saved (runs ++ others) end few own first (following_then saved.next files runs middle more others end rest onward)

  problem_then : (file next : ℕ) (told : List (List ℕ)) (runs : List Saved) (middle : ℕ) (more : List (List ℕ)) (why : ReduceErr)
      → AreFollowing script p max_bytes next told runs middle → FirstFileProblem script p max_bytes (file + length told) middle more why
      → FirstFileProblem script p max_bytes file next (told ++ more) why
  problem_then file _ _ _ _ more why (joins.no_file next) found =
      let as_file : file + 0 ≡ file = omega arith in
      let P : ℕ → Type 0 = λ n. FirstFileProblem script p max_bytes n next more why in subst P as_file found
  problem_then file _ _ _ _ more why (joins.one_more next bytes files saved runs middle few own first rest) found =
      let as_file : file + length (bytes ∷ files) ≡ file + 1 + length files = omega arith in
      let P : ℕ → Type 0 = λ n. FirstFileProblem script p max_bytes n middle more why in
      joins.later file next bytes (files ++ more) saved why few own first
      (problem_then (file + 1) saved.next files runs middle more why rest (subst P as_file found))

  -- Files that follow begin where the first one does.
  begins_by : (formed : IsWellFormed p) → (bound : max_bytes < 2 ^ 64) → (bytes : List ℕ) (files more : List (List ℕ)) (next : ℕ) (runs : List Saved) (end : ℕ) → AreFollowing script p max_bytes next (bytes ∷ files) runs end → Begins script p max_bytes (bytes ∷ more) next
  begins_by formed bound _ _ more _ _ _ (joins.one_more next bytes others saved runs end few own first rest) = λ other size h.
      ap (λ (s : Saved). s.first) (same script p formed bytes (omega (arith, size)) other saved h own) ∙ first

  -- ---- how far files are joined
  pub none_joined : (holds : Holds) (names : List (List ℕ)) → IsJoining script p max_bytes limit holds names 0 None
  none_joined holds names = record { told = []; may = tt; runs = []; far = (refl, refl) }

  one_further : (formed : IsWellFormed p) → (before : Option Saved) (told : List (List ℕ)) (runs : List Saved) (bytes : List ℕ) (saved joined : Saved) → SoFar script p max_bytes limit told runs before → length bytes ≤ max_bytes
      → IsRunFile script p bytes saved → Follows (next_of before) saved.first → IsJoinable p joined → JoinsNext p limit before saved joined
      → SoFar script p max_bytes limit (told ++ bytes ∷ []) (runs ++ saved ∷ []) (Some joined)
  one_further formed None told runs bytes saved joined far size own follows able j =
      let P : List (List ℕ) → Type 0 = λ ts. SoFar script p max_bytes limit (ts ++ bytes ∷ []) (runs ++ saved ∷ []) (Some joined) in
      let Q : List Saved → Type 0 = λ rs. SoFar script p max_bytes limit (bytes ∷ []) (rs ++ saved ∷ []) (Some joined) in
      let R : Saved → Type 0 = λ s. AreFollowing script p max_bytes saved.first (bytes ∷ []) (saved ∷ []) s.next in
      subst P (sym far.0) (subst Q (sym far.1) (
        bytes,
        [],
        saved,
        [],
        saved.first,
        refl,
        refl,
        subst R (sym j) (joins.one_more saved.first bytes [] saved [] saved.next size own refl (joins.no_file saved.next)),
        join_one p limit saved joined j own.is.lawful,
      ))
  one_further formed (Some before) told runs bytes saved joined far size own follows able j =
      let N : ℕ → Type 0 = λ n. AreFollowing script p max_bytes far.4 (told ++ bytes ∷ []) (runs ++ saved ∷ []) n in
      let J : List Saved → Type 0 = λ rs. IsJoinOf p limit rs before in
      let K : List Saved → Type 0 = λ rs. IsJoinOf p limit (rs ++ saved ∷ []) joined in (
        far.0,
        far.1 ++ bytes ∷ [],
        far.2,
        far.3 ++ saved ∷ [],
        far.4,
        ap (λ (ts : List (List ℕ)). ts ++ bytes ∷ []) far.5,
        ap (λ (rs : List Saved). rs ++ saved ∷ []) far.6,
        subst N (sym j.next_is)
            (following_then far.4 told runs before.next (bytes ∷ []) (saved ∷ []) saved.next far.7
            (joins.one_more before.next bytes [] saved [] saved.next size own follows (joins.no_file saved.next))),
        subst K (sym far.6) (join_more p limit far.2 far.3 before saved joined formed (subst J far.6 far.8) own.is.lawful able j),
      )

  pub joining_on : (formed : IsWellFormed p) → (holds : Holds) (names : List (List ℕ)) (k : ℕ) (before : Option Saved) (name bytes : List ℕ) (saved joined : Saved) → IsJoining script p max_bytes limit holds names k before
      → slice_get names k ≡ Some name → May (holds name) bytes → length bytes ≤ max_bytes → IsRunFile script p bytes saved → Follows (next_of before) saved.first
      → IsJoinable p joined → JoinsNext p limit before saved joined → IsJoining script p max_bytes limit holds names (k + 1) (Some joined)
  joining_on formed holds names k before name bytes saved joined is at may size own follows able j =
      let P : List (List ℕ) → Type 0 = λ ns. MayAll holds ns (is.told ++ bytes ∷ []) in
      record {
        told = is.told ++ bytes ∷ [];
        may = subst P (sym (take_at names k name at)) (may_both holds (take k names) (name ∷ []) is.told (bytes ∷ []) is.may (may, tt));
        runs = is.runs ++ saved ∷ [];
        far = one_further formed before is.told is.runs bytes saved joined is.far size own follows able j;
      }

  -- ---- at the end
  pub all_joined : (holds : Holds) (names : List (List ℕ)) (k : ℕ) (joined : Saved) → IsJoining script p max_bytes limit holds names k (Some joined) → length names ≤ k → JoinedAll script p max_bytes limit holds names joined
  all_joined holds names k joined is all =
      let P : List (List ℕ) → Type 0 = λ ns. MayAll holds ns is.told in
      record {
        files = is.told;
        may = subst P (take_all k names all) is.may;
        runs = is.runs;
        are = record { first = is.far.4; end = joined.next; follow = is.far.7 };
        joins = is.far.8;
      }

  pub none_at_end : (holds : Holds) (names : List (List ℕ)) (k : ℕ) (saved : Saved) → IsJoining script p max_bytes limit holds names k None → length names ≤ k → saved.first ≡ 1 → saved.next ≡ 1 → saved.groups ≡ []
      → JoinedAll script p max_bytes limit holds names saved
  none_at_end holds names k saved is all first next groups =
      let P : List (List ℕ) → Type 0 = λ ns. MayAll holds ns is.told in
      let Q : List (List ℕ) → Type 0 = λ fs. AreRunFiles script p max_bytes fs is.runs in
      let R : List Saved → Type 0 = λ rs. AreRunFiles script p max_bytes [] rs in
      let J : List Saved → Type 0 = λ rs. IsJoinOf p limit rs saved in
      record {
        files = is.told;
        may = subst P (take_all k names all) is.may;
        runs = is.runs;
        are = subst Q (sym is.far.0) (subst R (sym is.far.1) (record { first = 1; end = 1; follow = joins.no_file 1 }));
        joins = subst J (sym is.far.1) (join_none p limit saved first next groups);
      }

  -- ---- why files aren't joined
  -- What is wrong with the next file is the first problem, wherever the first file begins.
  problem_here : (formed : IsWellFormed p) → (bound : max_bytes < 2 ^ 64) → (told : List (List ℕ)) (runs : List Saved) (before : Option Saved) (bytes : List ℕ) (rest : List (List ℕ)) (why : ReduceErr) → SoFar script p max_bytes limit told runs before
      → ((next : ℕ) → Follows (next_of before) next → FirstFileProblem script p max_bytes (length told) next (bytes ∷ rest) why)
      → FirstJoinProblem script p max_bytes (told ++ bytes ∷ rest) why
  problem_here formed bound told runs None bytes rest why far found =
      let at = first_at script p formed max_bytes bound (bytes ∷ rest) in
      let P : List (List ℕ) → Type 0 = λ ts. FirstJoinProblem script p max_bytes (ts ++ bytes ∷ rest) why in
      let Q : List (List ℕ) → Type 0 = λ ts. FirstFileProblem script p max_bytes (length ts) at.0 (bytes ∷ rest) why in
      subst P (sym far.0) (record { first = at.0; begins = at.1; problem = subst Q far.0 (found at.0 tt) })
  problem_here formed bound told runs (Some before) bytes rest why far found =
      let P : List (List ℕ) → Type 0 = λ ts. Begins script p max_bytes (ts ++ bytes ∷ rest) far.4 in
      let Q : List (List ℕ) → Type 0 = λ ts. AreFollowing script p max_bytes far.4 ts runs before.next in
      let N : ℕ → Type 0 = λ n. FirstFileProblem script p max_bytes n before.next (bytes ∷ rest) why in
      let count : length told ≡ 0 + length told = omega arith in
      record {
        first = far.4;
        begins = subst P (sym far.5) (begins_by formed bound far.0 far.1 (far.1 ++ bytes ∷ rest) far.4 runs before.next (subst Q far.5 far.7));
        problem = problem_then 0 far.4 told runs before.next (bytes ∷ rest) why far.7 (subst N count (found before.next refl));
      }

  stops_at : (formed : IsWellFormed p) → (bound : max_bytes < 2 ^ 64) → (holds : Holds) (names : List (List ℕ)) (k : ℕ) (before : Option Saved) (name bytes : List ℕ) (why : ReduceErr) → IsJoining script p max_bytes limit holds names k before
      → slice_get names k ≡ Some name → May (holds name) bytes
      → ((rest : List (List ℕ)) (next : ℕ) → Follows (next_of before) next → FirstFileProblem script p max_bytes k next (bytes ∷ rest) why)
      → HasJoinProblem script p max_bytes holds names why
  stops_at formed bound holds names k before name bytes why is at may found =
      let count = told_count holds names is.told k name is.may at in
      let rest = some_files holds (drop (k + 1) names) in
      let R : List (List ℕ) → Type 0 = λ ns. MayAll holds ns (bytes ∷ rest) in
      let F : ℕ → Type 0 = λ n. (next : ℕ) → Follows (next_of before) next → FirstFileProblem script p max_bytes n next (bytes ∷ rest) why in
      record {
        files = is.told ++ bytes ∷ rest;
        may = may_whole holds names is.told (bytes ∷ rest) k is.may (subst R (sym (drop_at names k name at)) (may, may_some holds (drop (k + 1) names)));
        problem = problem_here formed bound is.told is.runs before bytes rest why is.far (subst F (sym count) (found rest));
      }

  far_files : (told : List (List ℕ)) (runs : List Saved) (before : Option Saved) → SoFar script p max_bytes limit told runs before → AreRunFiles script p max_bytes told runs
  far_files told runs None far =
      let P : List (List ℕ) → Type 0 = λ ts. AreRunFiles script p max_bytes ts runs in
      let Q : List Saved → Type 0 = λ rs. AreRunFiles script p max_bytes [] rs in
      subst P (sym far.0) (subst Q (sym far.1) (record { first = 1; end = 1; follow = joins.no_file 1 }))
  far_files told runs (Some before) far = record { first = far.4; end = before.next; follow = far.7 }

  fails_at : (holds : Holds) (names : List (List ℕ)) (before after : Counts) (k : ℕ) (joined : Option Saved) (name : List ℕ)
      → IsJoining script p max_bytes limit holds names k joined → slice_get names k ≡ Some name → Rose (before name) (after name) → JoinFailsAt script p max_bytes holds names before after k
  fails_at holds names before after k joined name is at rose =
      let count = told_count holds names is.told k name is.may at in
      let rest = some_files holds (drop k names) in
      let P : List (List ℕ) → Type 0 = λ fs. AreRunFiles script p max_bytes fs is.runs in
      let front : take k (is.told ++ rest) ≡ is.told = ap (λ m. take m (is.told ++ rest)) (sym count) ∙ take-append_seam is.told rest in
      record {
        files = is.told ++ rest;
        may = may_whole holds names is.told rest k is.may (may_some holds (drop k names));
        runs = is.runs;
        are = subst P (sym front) (far_files is.told is.runs joined is.far);
        name = name;
        named = at;
        rose = rose;
      }

  -- The file wasn't read.
  pub unread_stops : (formed : IsWellFormed p) → (bound : max_bytes < 2 ^ 64) → (holds : Holds) (names : List (List ℕ)) (before during after : Counts) (k : ℕ) (joined : Option Saved) (name : List ℕ) (why : ReduceErr)
      → IsJoining script p max_bytes limit holds names k joined → slice_get names k ≡ Some name → before name ≤ during name
      → IsUnread max_bytes k (holds name) (during name) (after name) why → StopsJoin script p max_bytes holds names before after why
  unread_stops formed bound holds names before during after k joined name (reduce_err.Read file) is at later unread =
      let P : ℕ → Type 0 = λ m. JoinFailsAt script p max_bytes holds names before after m in
      subst P (sym unread.0) (fails_at holds names before after k joined name is at (rose_later (before name) (during name) (after name) later unread.1))
  unread_stops formed bound holds names before during after k joined name (reduce_err.TooLarge file) is at later unread =
      let large = larger max_bytes (holds name) unread.1 in
      let P : ℕ → Type 0 = λ m. HasJoinProblem script p max_bytes holds names (reduce_err.TooLarge m) in
      subst P (sym unread.0) (stops_at formed bound holds names k joined name large.0 (reduce_err.TooLarge k) is at large.1 (λ rest next follows. joins.too_large k next large.0 rest large.2))
  unread_stops formed bound holds names before during after k joined name (reduce_err.OtherScript file) is at later unread = absurd unread
  unread_stops formed bound holds names before during after k joined name (reduce_err.Malformed file) is at later unread = absurd unread
  unread_stops formed bound holds names before during after k joined name (reduce_err.Apart file) is at later unread = absurd unread
  unread_stops formed bound holds names before during after k joined name (reduce_err.Gap file group) is at later unread = absurd unread
  unread_stops formed bound holds names before during after k joined name reduce_err.NoMemory is at later unread = tt

  -- The file has a fault.
  fault_for : (joined : Option Saved) (k : ℕ) (bytes : List ℕ) (why : ReduceErr) → HasFaultAfter script p (next_of joined) k bytes why → (next : ℕ) → Follows (next_of joined) next → HasRunFault script p next k bytes why
  fault_for None k bytes why h next follows = h next
  fault_for (Some joined) k bytes why h next follows = subst (λ (n : ℕ). HasRunFault script p n k bytes why) (sym follows) h

  fault_stops : (holds : Holds) (names : List (List ℕ)) (before after : Counts) (k next : ℕ) (bytes : List ℕ) (why : ReduceErr) → HasRunFault script p next k bytes why
      → HasJoinProblem script p max_bytes holds names why → StopsJoin script p max_bytes holds names before after why
  fault_stops holds names before after k next bytes _ (joins.other_script h) found = found
  fault_stops holds names before after k next bytes _ (joins.malformed h) found = found
  fault_stops holds names before after k next bytes _ (joins.apart saved own apart) found = found

  abbrev some_next : Option Saved → ℕ
  some_next None = 0
  some_next (Some joined) = joined.next

  some_follows : (joined : Option Saved) → Follows (next_of joined) (some_next joined)
  some_follows None = tt
  some_follows (Some joined) = refl

  pub unjoined_stops : (formed : IsWellFormed p) → (bound : max_bytes < 2 ^ 64) → (holds : Holds) (names : List (List ℕ)) (before after : Counts) (k : ℕ) (joined : Option Saved) (name bytes : List ℕ) (why : ReduceErr)
      → IsJoining script p max_bytes limit holds names k joined → slice_get names k ≡ Some name → May (holds name) bytes → length bytes ≤ max_bytes
      → (why ≡ reduce_err.NoMemory) ⊎ HasFaultAfter script p (next_of joined) k bytes why → StopsJoin script p max_bytes holds names before after why
  unjoined_stops formed bound holds names before after k joined name bytes why is at may size (inl none) =
      let P : ReduceErr → Type 0 = λ w. StopsJoin script p max_bytes holds names before after w in subst P (sym none) tt
  unjoined_stops formed bound holds names before after k joined name bytes why is at may size (inr h) =
      fault_stops holds names before after k (some_next joined) bytes why (fault_for joined k bytes why h (some_next joined) (some_follows joined))
      (stops_at formed bound holds names k joined name bytes why is at may (λ rest next follows. joins.faulty k next bytes rest why size (fault_for joined k bytes why h next follows)))

  -- ---- the first files
  abbrev fits_all : List (List ℕ) → Type 0
  fits_all files = All (λ (bytes : List ℕ). length bytes ≤ max_bytes) files

  pub no_files : AreFilesJoined script p max_bytes limit [] None
  no_files = record { runs = []; far = (refl, refl) }

  -- One file more.
  pub files_on : (formed : IsWellFormed p) → (files : List (List ℕ)) (k : ℕ) (before : Option Saved) (bytes : List ℕ) (joined : Saved) → AreFilesJoined script p max_bytes limit (take k files) before
      → slice_get files k ≡ Some bytes → length bytes ≤ max_bytes → IsFileJoined script p limit before bytes joined → IsJoinable p joined
      → AreFilesJoined script p max_bytes limit (take (k + 1) files) (Some joined)
  files_on formed files k before bytes joined is at size file able =
      let P : List (List ℕ) → Type 0 = λ fs. SoFar script p max_bytes limit fs (is.runs ++ file.saved ∷ []) (Some joined) in
      record {
        runs = is.runs ++ file.saved ∷ [];
        far = subst P (sym (take_at files k bytes at)) (one_further formed before (take k files) is.runs bytes file.saved joined is.far size file.is file.follows able file.joins);
      }

  -- Texts that are joined by key are joined as files.
  pub texts_far : (formed : IsWellFormed p) → (texts : List (List ℕ)) (joined : Saved) → AreTextsJoined script p limit texts joined → fits_all texts
      → AreFilesJoined script p max_bytes limit texts (Some joined)
  texts_far formed _ _ (places.first_text bytes saved text able) sizes =
      let size = All-head (λ (bytes : List ℕ). length bytes ≤ max_bytes) bytes [] sizes in
      record {
        runs = saved ∷ [];
        far = one_further formed None [] [] bytes saved saved (refl, refl) size (record { is = text.is; stored = text.stored }) tt able refl;
      }
  texts_far formed _ _ (places.next_text texts bytes before joined early one able) sizes =
      let rest = texts_far formed texts before early (all_front (λ (bytes : List ℕ). length bytes ≤ max_bytes) texts bytes sizes) in
      let size = all_last (λ (bytes : List ℕ). length bytes ≤ max_bytes) texts bytes sizes in
      record {
        runs = rest.runs ++ one.saved ∷ [];
        far = one_further formed (Some before) texts rest.runs bytes one.saved joined rest.far size (record { is = one.text.is; stored = one.text.stored }) one.follows able one.joins;
      }

  pub joined_far : (holds : Holds) (names files : List (List ℕ)) (k : ℕ) (joined : Option Saved) → MayAll holds (take k names) files → AreFilesJoined script p max_bytes limit files joined
      → IsJoining script p max_bytes limit holds names k joined
  joined_far holds names files k joined may is = record { told = files; may = may; runs = is.runs; far = is.far }

  -- The name of a file, and those before it.
  may_at : (holds : Holds) (names files : List (List ℕ)) (n k : ℕ) (bytes : List ℕ) → MayAll holds (take n names) files → slice_get files k ≡ Some bytes
      → (name : List ℕ) × (slice_get names k ≡ Some name) × May (holds name) bytes × MayAll holds (take k names) (take k files)
  may_at holds names [] n k bytes may at = absurd (cc)
  may_at holds [] (file ∷ files) zero k bytes may at = absurd may
  may_at holds [] (file ∷ files) (suc n) k bytes may at = absurd may
  may_at holds (name ∷ names) (file ∷ files) zero k bytes may at = absurd may
  may_at holds (name ∷ names) (file ∷ files) (suc n) zero bytes may at =
      let same : file ≡ bytes = cc in
      (name, refl, subst (λ (bs : List ℕ). May (holds name) bs) same may.0, tt)
  may_at holds (name ∷ names) (file ∷ files) (suc n) (suc k) bytes may at =
      let more = may_at holds names files n k bytes may.1 at in
      (more.0, more.1, more.2, (may.0, more.3))

  pub size_at : (files : List (List ℕ)) (k : ℕ) (bytes : List ℕ) → fits_all files → slice_get files k ≡ Some bytes → length bytes ≤ max_bytes
  size_at [] k bytes sizes at = absurd (cc)
  size_at (file ∷ files) zero bytes sizes at =
      let same : file ≡ bytes = cc in
      subst (λ (bs : List ℕ). length bs ≤ max_bytes) same (All-head (λ (bytes : List ℕ). length bytes ≤ max_bytes) file files sizes)
  size_at (file ∷ files) (suc k) bytes sizes at = size_at files k bytes (All-tail (λ (bytes : List ℕ). length bytes ≤ max_bytes) file files sizes) at

  -- One of the first files has a fault.
  pub files_stop : (formed : IsWellFormed p) → (bound : max_bytes < 2 ^ 64) → (holds : Holds) (names : List (List ℕ)) (before after : Counts) (n : ℕ) (files : List (List ℕ)) (why : ReduceErr)
      → MayAll holds (take n names) files → fits_all files → StopsFiles script p max_bytes limit files why → StopsJoin script p max_bytes holds names before after why
  files_stop formed bound holds names before after n files why may sizes (inl none) =
      let P : ReduceErr → Type 0 = λ w. StopsJoin script p max_bytes holds names before after w in subst P (sym none) tt
  files_stop formed bound holds names before after n files why may sizes (inr found) =
      let k = found.0 in
      let is = found.1 in
      let there = may_at holds names files n k is.bytes may is.here in
      unjoined_stops formed bound holds names before after k is.joined there.0 is.bytes why (joined_far holds names (take k files) k is.joined there.3 is.before) there.1 there.2
      (size_at files k is.bytes sizes is.here) (inr is.fault)

  -- The next file wasn't read.
  pub next_stops : (formed : IsWellFormed p) → (bound : max_bytes < 2 ^ 64) → (holds : Holds) (names : List (List ℕ)) (before after : Counts) (k : ℕ) (joined : Option Saved) (why : ReduceErr)
      → IsJoining script p max_bytes limit holds names k joined → IsUnreadAt max_bytes holds names before after k why → StopsJoin script p max_bytes holds names before after why
  next_stops formed bound holds names before after k joined why is unread =
      let same : before unread.name ≤ before unread.name = omega arith in
      unread_stops formed bound holds names before before after k joined unread.name why is unread.named same unread.unread

  -- Faults that were counted later were counted since the beginning.
  pub stops_later : (holds : Holds) (names : List (List ℕ)) (before during after : Counts) (why : ReduceErr) → ((name : List ℕ) → before name ≤ during name)
      → StopsJoin script p max_bytes holds names during after why → StopsJoin script p max_bytes holds names before after why
  stops_later holds names before during after (reduce_err.Read file) later fails =
      record {
        files = fails.files;
        may = fails.may;
        runs = fails.runs;
        are = fails.are;
        name = fails.name;
        named = fails.named;
        rose = rose_later (before fails.name) (during fails.name) (after fails.name) (later fails.name) fails.rose;
      }
  stops_later holds names before during after (reduce_err.TooLarge file) later found = found
  stops_later holds names before during after (reduce_err.OtherScript file) later found = found
  stops_later holds names before during after (reduce_err.Malformed file) later found = found
  stops_later holds names before during after (reduce_err.Apart file) later found = found
  stops_later holds names before during after (reduce_err.Gap file group) later found = absurd found
  stops_later holds names before during after reduce_err.NoMemory later found = tt

-- A read that failed later failed since the beginning.
pub unread_later : (max_bytes : ℕ) (holds : Holds) (names : List (List ℕ)) (before during after : Counts) (k : ℕ) (name : List ℕ) (why : ReduceErr) → before name ≤ during name
    → slice_get names k ≡ Some name → IsUnread max_bytes k (holds name) (during name) (after name) why → IsUnreadAt max_bytes holds names before after k why
unread_later max_bytes holds names before during after k name why later at unread = record { name = name; named = at; unread = unread_since max_bytes k (holds name) (before name) (during name) (after name) why later unread }
  where
    unread_since : (max k : ℕ) (told : Option (List ℕ)) (before during after : ℕ) (why : ReduceErr) → before ≤ during → IsUnread max k told during after why → IsUnread max k told before after why
    unread_since max k told before during after (reduce_err.Read file) later h = (h.0, rose_later before during after later h.1)
    unread_since max k told before during after (reduce_err.TooLarge file) later h = h
    unread_since max k told before during after (reduce_err.OtherScript file) later h = h
    unread_since max k told before during after (reduce_err.Malformed file) later h = h
    unread_since max k told before during after (reduce_err.Apart file) later h = h
    unread_since max k told before during after (reduce_err.Gap file group) later h = h
    unread_since max k told before during after reduce_err.NoMemory later h = h
