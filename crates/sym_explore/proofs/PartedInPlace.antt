-- Paths that a condition on a cell splits where they lie, and the lists that they become.
use Rattle.std.proofs.Common.{◌≡◌, ◌≤◌, ◌<◌, ◌+◌, ◌*◌, ℕ, Bool, true, false, List, [], ◌∷◌, ◌++◌, Option, Some, Ok, map, length, get_or, set, take, drop, refl, sym, ap, ◌∙◌, subst, append_assoc, arith}
use Rattle.std.proofs.lemmas.List.{append-nil, length-append, length-map, map-append, take_all}
use Rattle.std.proofs.lemmas.List.Elements.{All-append, All-drop, All-take, All-weaker}
use Rattle.std.proofs.lemmas.List.Sorted.{IsPermutation-append_comm, IsPermutation-map, IsPermutation-refl, length_permutation}
use Rattle.std.specs.List.Sorted.{IsPermutation}
use Rattle.sym_base.specs.declared.values.state.State.{State}
use Rattle.sym_base.specs.declared.values.state.Outcome.{Outcome}
use Rattle.sym_check.specs.Meaning.Conditions.{test_truth}
use Rattle.sym_check.specs.Plan.ScriptPlans.{ScriptPlan}
use Rattle.sym_int.specs.Cuts.{count_truth}
use Rattle.sym_path.specs.declared.path.Path.{Path}
use Rattle.sym_path.specs.Changing.{GoesOn}
use Rattle.sym_path.specs.Giving.{given}
use Rattle.sym_explore.specs.declared.branch.Branch.{Branch}
use Rattle.sym_explore.specs.Branches.{answered, AreFewBranches, AreGoing, branches_with, BranchesGo, IsGoing, judged, paths_false, paths_true, Splits, with_truth}
use Rattle.sym_explore.specs.Evaluating.{AreFewSplit, SplitsEach}
use Rattle.sym_explore.specs.Parting.{AllGoOn, AreFewParts, AreParts, at_state, those_false, those_true}
use Rattle.sym_explore.proofs.InOrder.{add_first, add_second, AreInParts, count_within, first_is, none_in_parts, one_order, one_taken, second_is, to_first, to_second, turned, turned_same, whole_old}
use Rattle.sym_explore.proofs.PartedCounts.{count_false, count_true}
use Rattle.sym_explore.proofs.PartedLists.{at_append, false_append, false_of_false, false_of_true, go_false, go_true, judged_false, judged_true, Judged, open_parts, true_append, true_of_false, true_of_true}

-- The paths before the index are split: those on which the condition is true come first, and then
-- those on which it is false.
pub record AreSplitTo (p : ScriptPlan) (meaning : ℕ → Outcome → Outcome × Option Bool)
    (most : Bool → ℕ) (old : List Path) (before : List Branch) (index count : ℕ)
    (paths : List Path) (after : List Branch) : Type 0 where
  pub trues : List Path
  pub falses : List Path
  pub parts : AreInParts old index count paths trues falses
  pub exact : (n : ℕ) → SplitsEach p (meaning n) (take index old) before trues falses after
  pub few : AreFewSplit most (take index old) before trues falses after

pub none_split : (p : ScriptPlan) (meaning : ℕ → Outcome → Outcome × Option Bool) (most : Bool → ℕ) (old : List Path) (before : List Branch) → AreSplitTo p meaning most old before 0 0 old before
none_split p meaning most old before = record {
  trues = [];
  falses = [];
  parts = none_in_parts old;
  exact = λ n s. subst (λ (js : Judged). IsPermutation js (judged (test_truth p.tests) before s)) (sym (append-nil (judged (test_truth p.tests) before s))) (IsPermutation-refl (judged (test_truth p.tests) before s));
  few = record { trues = omega arith; falses = omega arith };
}

-- One path and others, each with this truth.
truth_append : (p : ScriptPlan) (truth : Bool) (paths : List Path) (path : Path) (s : State) → with_truth (Some truth) (at_state p paths s) ++ with_truth (Some truth) (given (test_truth p.tests) path s) ≡ with_truth (Some truth) (at_state p (paths ++ path ∷ []) s)
truth_append p truth paths path s =
    let T = test_truth p.tests in
    sym (map-append (λ (o : Outcome). (o, Some truth)) (at_state p paths s) (given T path s))
    ∙ ap (with_truth (Some truth)) (
    ap (λ (os : List Outcome). at_state p paths s ++ os) (sym (append-nil (given T path s)))
    ∙ sym (at_append p paths (path ∷ []) s))

turned_gives : (p : ScriptPlan) (paths : List Path) (s : State) → IsPermutation (at_state p paths s) (at_state p (turned paths) s)
turned_gives p [] s = IsPermutation-refl []
turned_gives p (path ∷ paths) s =
    let T = test_truth p.tests in
    subst (IsPermutation (given T path s ++ at_state p paths s))
    (ap (λ (os : List Outcome). at_state p paths s ++ os) (sym (append-nil (given T path s))) ∙ sym (at_append p paths (path ∷ []) s))
    (IsPermutation-append_comm (given T path s) (at_state p paths s))

-- ---- one path more

module _ (p : ScriptPlan) (meaning : ℕ → Outcome → Outcome × Option Bool) (most : Bool → ℕ) (old : List Path) (before : List Branch) (index count : ℕ) (paths : List Path) (after : List Branch) (h : AreSplitTo p meaning most old before index count paths after) (path new : Path) (written : List Path) (pieces : List Branch) (truth : Bool) (below : index < length paths) (here : path ≡ get_or paths index path) (set_is : written ≡ set paths index new) (split : (n : ℕ) → Splits p (meaning n) path after new pieces truth) (fewer : AreFewBranches most after pieces truth) where
  abbrev done : List Path
  done = take index old

  more : take (index + 1) old ≡ done ++ path ∷ []
  more = one_taken old index count paths h.trues h.falses h.parts path new written below here set_is

  made : (n : ℕ) (s : State) → map (meaning n) (at_state p done s) ++ map (meaning n) (given (test_truth p.tests) path s) ≡ map (meaning n) (at_state p (take (index + 1) old) s)
  made n s =
      let T = test_truth p.tests in
      sym (map-append (meaning n) (at_state p done s) (given T path s))
      ∙ ap (map (meaning n)) (
      ap (λ (os : List Outcome). at_state p done s ++ os) (sym (append-nil (given T path s)))
      ∙ sym (at_append p done (path ∷ []) s)
      ∙ ap (λ (xs : List Path). at_state p xs s) (sym more))

  one_more : length (take (index + 1) old) ≡ length done + 1
  one_more = omega (arith, ap length more, length-append done (path ∷ []))

  -- The condition is false on it.
  pub false_more : truth ≡ false → AreSplitTo p meaning most old before (index + 1) count written pieces
  false_more is = record {
    trues = h.trues;
    falses = h.falses ++ new ∷ [];
    parts = to_second old index count paths h.trues h.falses h.parts path new written below here set_is;
    exact = λ n s.
        let T = test_truth p.tests in
        let a = with_truth (Some true) (at_state p h.trues s) in
        let b = with_truth (Some false) (at_state p h.falses s) in
        let c = with_truth (Some false) (given T new s) in
        let first = map (meaning n) (at_state p done s) in
        let next = map (meaning n) (given T path s) in
        let splits : judged T pieces s ++ c ≡ judged T after s ++ next = subst (λ (t : Bool). judged T pieces s ++ with_truth (Some t) (given T new s) ≡ judged T after s ++ next) is (split n s) in
        subst (λ (js : Judged). IsPermutation (judged T before s ++ js) (a ++ (with_truth (Some false) (at_state p (h.falses ++ new ∷ []) s) ++ judged T pieces s))) (made n s)
        (subst (λ (js : Judged). IsPermutation (judged T before s ++ (first ++ next)) (a ++ (js ++ judged T pieces s))) (truth_append p false h.falses new s)
        (add_second (judged T before s) first next a b c (judged T after s) (judged T pieces s) (h.exact n s) splits));
    few =
        let t = subst (λ (x : Bool). branches_with true pieces + count_truth true x ≤ branches_with true after + most true) is (fewer.each true) in
        let f = subst (λ (x : Bool). branches_with false pieces + count_truth false x ≤ branches_with false after + most false) is (fewer.each false) in
        record {
          trues = let a = h.few.trues in let m = ap (λ (k : ℕ). k * most true) one_more in omega arith;
          falses = let a = h.few.falses in let m = ap (λ (k : ℕ). k * most false) one_more in let l = length-append h.falses (new ∷ []) in omega arith;
        };
  }

  -- The condition is true on it, and it changes places with the first one on which it is false.
  pub true_more : truth ≡ true → (final : List Path) → final ≡ set (set written count (get_or written index new)) index (get_or written count new) → AreSplitTo p meaning most old before (index + 1) (count + 1) final pieces
  true_more is final exchanged = record {
    trues = h.trues ++ new ∷ [];
    falses = turned h.falses;
    parts = to_first old index count paths h.trues h.falses h.parts path new written below here set_is final exchanged;
    exact = λ n s.
        let T = test_truth p.tests in
        let a = with_truth (Some true) (at_state p h.trues s) in
        let b = with_truth (Some false) (at_state p h.falses s) in
        let c = with_truth (Some true) (given T new s) in
        let d = with_truth (Some false) (at_state p (turned h.falses) s) in
        let first = map (meaning n) (at_state p done s) in
        let next = map (meaning n) (given T path s) in
        let splits : judged T pieces s ++ c ≡ judged T after s ++ next = subst (λ (t : Bool). judged T pieces s ++ with_truth (Some t) (given T new s) ≡ judged T after s ++ next) is (split n s) in
        let turns : IsPermutation b d = IsPermutation-map (λ (o : Outcome). (o, Some false)) (at_state p h.falses s) (at_state p (turned h.falses) s) (turned_gives p h.falses s) in
        subst (λ (js : Judged). IsPermutation (judged T before s ++ js) (with_truth (Some true) (at_state p (h.trues ++ new ∷ []) s) ++ (d ++ judged T pieces s))) (made n s)
        (subst (λ (js : Judged). IsPermutation (judged T before s ++ (first ++ next)) (js ++ (d ++ judged T pieces s))) (truth_append p true h.trues new s)
        (add_first (judged T before s) first next a b c (judged T after s) (judged T pieces s) (h.exact n s) splits d turns));
    few =
        let t = subst (λ (x : Bool). branches_with true pieces + count_truth true x ≤ branches_with true after + most true) is (fewer.each true) in
        let f = subst (λ (x : Bool). branches_with false pieces + count_truth false x ≤ branches_with false after + most false) is (fewer.each false) in
        record {
          trues = let a = h.few.trues in let m = ap (λ (k : ℕ). k * most true) one_more in let l = length-append h.trues (new ∷ []) in omega arith;
          falses = let a = h.few.falses in let m = ap (λ (k : ℕ). k * most false) one_more in let l = length_permutation h.falses (turned h.falses) (turned_same h.falses) in omega arith;
        };
  }

-- ---- all of them

module _ (p : ScriptPlan) (meaning : ℕ → Outcome → Outcome × Option Bool) (most : Bool → ℕ) (old : List Path) (before : List Branch) (index count : ℕ) (paths : List Path) (after : List Branch) (h : AreSplitTo p meaning most old before index count paths after) (over : length paths ≤ index) where
  ends : length old ≤ index
  ends = whole_old old index count paths h.trues h.falses h.parts over

  these : h.trues ≡ take count paths
  these = first_is old index count paths h.trues h.falses h.parts over

  those : h.falses ≡ drop count paths
  those = second_is old index count paths h.trues h.falses h.parts over

  pub split_within : count ≤ length paths
  split_within = count_within old index count paths h.trues h.falses h.parts over

  pub split_exact : (n : ℕ) → SplitsEach p (meaning n) old before (take count paths) (drop count paths) after
  split_exact n s =
      let T = test_truth p.tests in
      subst (λ (xs : List Path). IsPermutation (judged T before s ++ map (meaning n) (at_state p xs s)) (with_truth (Some true) (at_state p (take count paths) s) ++ (with_truth (Some false) (at_state p (drop count paths) s) ++ judged T after s))) (take_all index old ends)
      (subst (λ (xs : List Path). IsPermutation (judged T before s ++ map (meaning n) (at_state p (take index old) s)) (with_truth (Some true) (at_state p xs s) ++ (with_truth (Some false) (at_state p (drop count paths) s) ++ judged T after s))) these
      (subst (λ (xs : List Path). IsPermutation (judged T before s ++ map (meaning n) (at_state p (take index old) s)) (with_truth (Some true) (at_state p h.trues s) ++ (with_truth (Some false) (at_state p xs s) ++ judged T after s))) those
      (h.exact n s)))

  pub split_few : AreFewSplit most old before (take count paths) (drop count paths) after
  split_few =
      let a = h.few.trues in
      let b = h.few.falses in
      let c = ap length these in
      let d = ap length those in
      let t = ap (λ (xs : List Path). length xs * most true) (take_all index old ends) in
      let f = ap (λ (xs : List Path). length xs * most false) (take_all index old ends) in
      record { trues = omega arith; falses = omega arith }

-- ---- the lists that they become

pub goes_on_all : (p : ScriptPlan) (paths : List Path) → AreGoing p paths → AllGoOn paths
goes_on_all p paths h = All-weaker (IsGoing p) (λ (path : Path). GoesOn path.end) (λ path going. going.goes_on) paths h

module _ (p : ScriptPlan) (n : ℕ) (f : State → Bool) (old trues falses : List Path) (none pieces : List Branch) (empty : none ≡ []) (split : SplitsEach p (answered n (λ s. Ok (f s))) old none trues falses pieces) (new falses_before falses_after : List Path) (new_is : new ≡ trues ++ paths_true pieces) (falses_is : falses_after ≡ (falses_before ++ falses) ++ paths_false pieces) where
  abbrev meaning : Outcome → Outcome × Option Bool
  meaning = answered n (λ s. Ok (f s))

  module _ (s : State) (few : length (at_state p old s) ≤ 1) where
    abbrev gives : Judged
    gives = with_truth (Some true) (at_state p trues s) ++ (with_truth (Some false) (at_state p falses s) ++ judged (test_truth p.tests) pieces s)

    order : gives ≡ map meaning (at_state p old s)
    order =
        one_order (map meaning (at_state p old s)) gives
        (subst (λ (bs : List Branch). IsPermutation (judged (test_truth p.tests) bs s ++ map meaning (at_state p old s)) gives) empty (split s))
        (omega (arith, length-map (at_state p old s) meaning, few))

    at_true : at_state p new s ≡ those_true (map meaning (at_state p old s))
    at_true =
        let js = judged (test_truth p.tests) pieces s in
        ap (λ (ps : List Path). at_state p ps s) new_is
        ∙ at_append p trues (paths_true pieces) s
        ∙ ap (λ (os : List Outcome). at_state p trues s ++ os) (judged_true p pieces s)
        ∙ sym (
        true_append (with_truth (Some true) (at_state p trues s)) (with_truth (Some false) (at_state p falses s) ++ js)
        ∙ (λ i. true_of_true (at_state p trues s) i ++ true_append (with_truth (Some false) (at_state p falses s)) js i)
        ∙ ap (λ (os : List Outcome). at_state p trues s ++ (os ++ those_true js)) (true_of_false (at_state p falses s)))
        ∙ ap those_true order

    at_false : at_state p falses_after s ≡ at_state p falses_before s ++ those_false (map meaning (at_state p old s))
    at_false =
        let js = judged (test_truth p.tests) pieces s in
        ap (λ (ps : List Path). at_state p ps s) (falses_is ∙ append_assoc falses_before falses (paths_false pieces))
        ∙ at_append p falses_before (falses ++ paths_false pieces) s
        ∙ ap (λ (os : List Outcome). at_state p falses_before s ++ os) (
        at_append p falses (paths_false pieces) s
        ∙ ap (λ (os : List Outcome). at_state p falses s ++ os) (judged_false p pieces s)
        ∙ sym (
        false_append (with_truth (Some true) (at_state p trues s)) (with_truth (Some false) (at_state p falses s) ++ js)
        ∙ (λ i. false_of_true (at_state p trues s) i ++ false_append (with_truth (Some false) (at_state p falses s)) js i)
        ∙ ap (λ (os : List Outcome). os ++ those_false js) (false_of_false (at_state p falses s)))
        ∙ ap those_false order)

  pub split_parts : AllGoOn old → AreParts p meaning old new falses_before falses_after [] []
  split_parts going = open_parts p n f old new falses_before falses_after [] [] going refl (λ s few. (at_true s few, at_false s few))

pub few_parts : (most : Bool → ℕ) (old trues falses : List Path) (none pieces : List Branch) → none ≡ [] → AreFewSplit most old none trues falses pieces → (new falses_before falses_after : List Path) → new ≡ trues ++ paths_true pieces → falses_after ≡ (falses_before ++ falses) ++ paths_false pieces → AreFewParts most old new falses_before falses_after [] []
few_parts most old trues falses none pieces empty few new falses_before falses_after e g =
    let a = few.trues in
    let b = few.falses in
    let c = count_true pieces in
    let d = count_false pieces in
    let t = ap (branches_with true) empty in
    let f = ap (branches_with false) empty in
    let k = ap length e in
    let l = length-append trues (paths_true pieces) in
    let m = ap length g in
    let q = length-append (falses_before ++ falses) (paths_false pieces) in
    let r = length-append falses_before falses in
    record { trues = omega arith; falses = omega arith; all = omega arith }

module _ (p : ScriptPlan) (count : ℕ) (paths : List Path) (pieces : List Branch) (go : AreGoing p paths) (pieces_go : BranchesGo p pieces) where
  pub trues_go : (new : List Path) → new ≡ take count paths ++ paths_true pieces → AreGoing p new
  trues_go new is = subst (AreGoing p) (sym is) (All-append (IsGoing p) (take count paths) (paths_true pieces) (All-take (IsGoing p) count paths go) (go_true p pieces pieces_go))

  pub falses_go : (before after : List Path) → AreGoing p before → after ≡ (before ++ drop count paths) ++ paths_false pieces → AreGoing p after
  falses_go before after before_go is =
      subst (AreGoing p) (sym is)
      (All-append (IsGoing p) (before ++ drop count paths) (paths_false pieces) (All-append (IsGoing p) before (drop count paths) before_go (All-drop (IsGoing p) count paths go)) (go_false p pieces pieces_go))
