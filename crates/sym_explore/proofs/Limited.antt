-- Segments that are taken a record further by paths that were copied, and within a limit.
use Rattle.std.proofs.Common.{◌≡◌, ◌≤◌, ◌<◌, ◌+◌, ◌*◌, ℕ, Bool, true, false, not, List, [], ◌∷◌, ◌++◌, map, length, get_or, take, cond, Some, refl, sym, ap, ◌∙◌, subst, arith}
use Rattle.std.proofs.Math.Nat.{mul-le-mul_left}
use Rattle.std.proofs.lemmas.List.{length-append}
use Rattle.std.proofs.lemmas.List.Elements.{All-append, All-filter, All-head, All-tail, All-weaker, filter_more, filter_passes}
use Rattle.std.proofs.lemmas.List.Filters.{length-filter_both}
use Rattle.std.proofs.lemmas.List.Sorted.{IsPermutation-filter_both, sum_by-IsPermutation}
use Rattle.std.proofs.lemmas.List.Sums.{sum_by-append, sum_by-cons}
use Rattle.std.specs.List.{All}
use Rattle.std.specs.Prelude.{slice_get}
use Rattle.sym_base.specs.declared.limits.TheConstants as limit
use Rattle.sym_base.specs.declared.values.record.Record.{Record}
use Rattle.sym_base.specs.declared.values.state.Outcome.{Outcome}
use Rattle.sym_base.specs.declared.values.state.Outcome.TheVariants.{Going}
use Rattle.sym_base.specs.declared.values.state.Outcome.TheVariants as outcome
use Rattle.sym_check.specs.Meaning.PathBounds.{path_bound}
use Rattle.sym_check.specs.Plan.ScriptPlans.{ScriptPlan}
use Rattle.sym_path.specs.declared.path.Path.{Path}
use Rattle.sym_path.specs.declared.path.PathEnd.{PathEnd}
use Rattle.sym_path.specs.declared.path.PathEnd.TheVariants.{Next, Ended}
use Rattle.sym_path.specs.Changing.{GoesOn}
use Rattle.sym_path.specs.Fitting.{PathFits, SegmentFits}
use Rattle.sym_path.specs.Pairs.{has_ended, is_ended}
use Rattle.sym_path.specs.Settling.{IsSettling}
use Rattle.sym_path.specs.Standing.{EndsAmong}
use Rattle.sym_path.proofs.Lists.{take_get}
use Rattle.sym_explore.specs.declared.path_limits.Extension.{Extension}
use Rattle.sym_explore.specs.declared.path_limits.Extension.TheVariants.{Fits, Over}
use Rattle.sym_explore.specs.Counting.{dos_ended, dos_going, made_paths, most_grown, most_paths}
use Rattle.sym_explore.specs.Ending.{AreMoved}
use Rattle.sym_explore.specs.Growing.{GivesAfter, IsExplored, IsLonger}
use Rattle.sym_explore.specs.Limiting.{chosen, is_chosen, IsExtended, IsExtendedBy}
use Rattle.sym_explore.specs.Parting.{AllGoOn, AreFewRun, at_state, those_ended, those_going}
use Rattle.sym_explore.specs.Stepping.{step_by}
use Rattle.sym_explore.proofs.CountedPaths.{bound_is_count, updates_go_on}
use Rattle.sym_explore.proofs.EndedLists.{outcomes_append}
use Rattle.sym_explore.proofs.Extended.{apart, few_counted, settled_explored, settled_few, settled_gives}
use Rattle.sym_explore.proofs.RunLists.{map_same}

-- ---- those that have ended, and those that go on

not_twice : (b : Bool) → b ≡ not (not b)
not_twice true = refl
not_twice false = refl

others_chosen : (path : Path) → is_chosen true path ≡ not (is_chosen false path)
others_chosen path = not_twice (has_ended path)

ended_over : (end : PathEnd) → is_ended end ≡ true → ¬ (GoesOn end)
ended_over (Next forms) e g = absurd (cc)
ended_over (Ended fault) e g = g

going_on : (end : PathEnd) → not (is_ended end) ≡ true → GoesOn end
going_on (Next forms) e = tt
going_on (Ended fault) e = absurd (cc)

pub ended_chosen : (end : PathEnd) → ¬ (GoesOn end) → is_ended end ≡ true
ended_chosen (Next forms) o = absurd (o tt)
ended_chosen (Ended fault) o = refl

pub going_chosen : (end : PathEnd) → GoesOn end → is_ended end ≡ false
going_chosen (Next forms) g = refl
going_chosen (Ended fault) g = absurd g

-- One path more.
pub chosen_next : (ended : Bool) (paths : List Path) (i : ℕ) (path : Path) (b : Bool) → i < length paths → path ≡ get_or paths i path → b ≡ is_chosen ended path → chosen ended (take (i + 1) paths) ≡ chosen ended (take i paths) ++ cond b (path ∷ []) []
chosen_next ended paths i path b within at is =
    filter_more (is_chosen ended) paths i path within
    ∙ ap (λ (q : Path). chosen ended (take i paths) ++ cond (is_chosen ended q) (q ∷ []) []) (sym at)
    ∙ ap (λ (a : Bool). chosen ended (take i paths) ++ cond a (path ∷ []) []) (sym is)

chosen_go_on : (old : List Path) → AllGoOn (chosen false old)
chosen_go_on old =
    All-weaker (λ (path : Path). is_chosen false path ≡ true) (λ (path : Path). GoesOn path.end) (λ path e. going_on path.end e) (chosen false old) (filter_passes (is_chosen false) old)

moved_apart : (old : List Path) → AreMoved old (chosen false old) [] (chosen true old)
moved_apart old = record {
  moved = chosen true old;
  is = refl;
  same = IsPermutation-filter_both (is_chosen false) (is_chosen true) others_chosen old;
  over = All-weaker (λ (path : Path). is_chosen true path ≡ true) (λ (path : Path). ¬ (GoesOn path.end)) (λ path e. ended_over path.end e) (chosen true old) (filter_passes (is_chosen true) old);
}

-- ---- what they give

module _ (p : ScriptPlan) (rec : Record) where
  stepped : (os : List Outcome) → length os ≤ 1 → those_ended os ++ map (step_by p rec) (those_going os) ≡ map (step_by p rec) os
  stepped [] once = refl
  stepped (Going s ∷ []) once = refl
  stepped (outcome.Ended fault ∷ []) once = refl
  stepped (o ∷ q ∷ os) once = absurd (omega (arith, once))

  few_going : (os : List Outcome) → length os ≤ 1 → length (those_going os) ≤ 1
  few_going [] once = omega arith
  few_going (Going s ∷ []) once = omega arith
  few_going (outcome.Ended fault ∷ []) once = omega arith
  few_going (o ∷ q ∷ os) once = absurd (omega (arith, once))

  chosen_give : (old grown : List Path) → GivesAfter p rec (chosen false old) grown → GivesAfter p rec old (chosen true old ++ grown)
  chosen_give old grown gives s once =
      let f = step_by p rec in
      let os : List Outcome = at_state p old s in
      let at = apart p old (chosen false old) [] (chosen true old) refl (moved_apart old) (chosen_go_on old) s once in
      let same : map (λ (o : Outcome). o) os ≡ os = map_same (λ o. o) os (λ o. refl) in
      let going : at_state p (chosen false old) s ≡ those_going os = at.going ∙ ap those_going same in
      let ended : at_state p (chosen true old) s ≡ those_ended os = at.ended ∙ ap those_ended same in
      let few : length (at_state p (chosen false old) s) ≤ 1 = subst (λ (xs : List Outcome). length xs ≤ 1) (sym going) (few_going os once) in
      outcomes_append _ (chosen true old) grown s
      ∙ ap (λ (xs : List Outcome). xs ++ at_state p grown s) ended
      ∙ ap (λ (xs : List Outcome). those_ended os ++ xs) (gives s few ∙ ap (map f) going)
      ∙ stepped os once

-- ---- one record more

-- The paths after a record, where those that go on were taken through it apart.
pub explored_apart : (p : ScriptPlan) (rec : Record) (old grown : List Path) → SegmentFits p old → IsExplored p rec (chosen false old) grown → IsExplored p rec old (chosen true old ++ grown)
explored_apart p rec old grown fits h = record {
  exact = chosen_give p rec old grown h.exact;
  fits = All-append (PathFits p) (chosen true old) grown (All-filter (is_chosen true) (PathFits p) old fits) h.fits;
  few =
      let both = length-filter_both (is_chosen false) (is_chosen true) others_chosen old in
      let joined = length-append (chosen true old) grown in
      let made = h.few in
      fewer (length (chosen false old)) (length (chosen true old)) (length old) (made_paths p) (length (chosen true old ++ grown)) both (omega (arith, updates_go_on p.cells p.update)) (omega (arith, joined, made));
  faults = λ records has ends.
      let P : Path → Type 0 = λ path. EndsAmong records path.end in
      All-append P (chosen true old) grown (All-filter (is_chosen true) P old ends) (h.faults records has (All-filter (is_chosen false) P old ends));
}
  where
    fewer : (g e o most n : ℕ) → g + e ≡ o → 1 ≤ most → n ≤ e + g * most → n ≤ o * most
    fewer g e o most n sum once h =
        let m : e * 1 ≤ e * most = mul-le-mul_left e once in
        let q : (g + e) * most ≡ o * most = ap (λ k. k * most) sum in
        omega (arith, m, q, h)

-- What they are settled to is the segment of one record more.
pub is_longer : (p : ScriptPlan) (rec : Record) (old grown new : List Path) → path_bound p ≤ limit.PATHS_MAX → IsExplored p rec old grown → IsSettling grown new → IsLonger p rec old new
is_longer p rec old grown new small h settling = record {
  settled = settling.settled;
  fits = settling.reduced.fits p h.fits;
  few = settled_few p rec old grown new small h settling;
  stands = λ records stand. settled_explored p rec records old grown new h settling stand;
  gives = settled_gives p rec old grown new h settling;
}

-- What the call answers is so.
pub extended_from : (p : ScriptPlan) (rec : Record) (old grown : List Path) (bound : ℕ) (e : Extension) → path_bound p ≤ limit.PATHS_MAX → IsExplored p rec old (chosen true old ++ grown) → IsExtendedBy old grown bound e → IsExtended p rec old bound e
extended_from p rec old grown bound (Fits new) small h by = (is_longer p rec old (chosen true old ++ grown) new small h by.0, by.1)
extended_from p rec old grown bound (Over same) small h by =
    (by.0, record { new = by.1.new; longer = is_longer p rec old (chosen true old ++ grown) by.1.new small h by.1.settling; over = by.1.over })

-- ---- how many

abbrev most_of : ℕ → Path → ℕ
most_of most path = most_paths path.end most

pub going_most : (most : ℕ) (end : PathEnd) → GoesOn end → most_paths end most ≡ most
going_most most (Next forms) g = refl
going_most most (Ended fault) g = absurd g

pub ended_most : (most : ℕ) (end : PathEnd) → ¬ (GoesOn end) → most_paths end most ≡ 1
ended_most most (Next forms) o = absurd (o tt)
ended_most most (Ended fault) o = refl

pub grown_next : (most : ℕ) (paths : List Path) (i : ℕ) (path : Path) → slice_get paths i ≡ Some path → most_grown most (take (i + 1) paths) ≡ most_grown most (take i paths) + most_paths path.end most
grown_next most paths i path at =
    let more = ap (most_grown most) (take_get paths i path at) in
    let both = sum_by-append (most_of most) (take i paths) (path ∷ []) in
    let one = sum_by-cons (most_of most) path [] in
    omega (arith, more, both, one)

grown_going : (most : ℕ) (xs : List Path) → AllGoOn xs → most_grown most xs ≡ length xs * most
grown_going most [] h = omega arith
grown_going most (x ∷ xs) h =
    let G : Path → Type 0 = λ path. GoesOn path.end in
    let first : most_of most x ≡ most = going_most most x.end (All-head G x xs h) in
    let rest = grown_going most xs (All-tail G x xs h) in
    let sum = sum_by-cons (most_of most) x xs in
    omega (arith, first, rest, sum)

grown_ended : (most : ℕ) (xs : List Path) → All (λ (path : Path). ¬ (GoesOn path.end)) xs → most_grown most xs ≡ length xs
grown_ended most [] h = omega arith
grown_ended most (x ∷ xs) h =
    let O : Path → Type 0 = λ path. ¬ (GoesOn path.end) in
    let first : most_of most x ≡ 1 = ended_most most x.end (All-head O x xs h) in
    let rest = grown_ended most xs (All-tail O x xs h) in
    let sum = sum_by-cons (most_of most) x xs in
    omega (arith, first, rest, sum)

-- Those that go on become so many, and the others stay.
pub explored_each_few : (p : ScriptPlan) (old going none ended new after now : List Path) → none ≡ [] → AreMoved old going none ended → AllGoOn going → now ≡ after ++ new → AreFewRun (dos_going p.cells p.update) (dos_ended p.cells p.update) going new ended after → length now ≤ most_grown (made_paths p) old
explored_each_few p old going none ended new after now empty moves on is few =
    let most : ℕ = made_paths p in
    let same = sum_by-IsPermutation (most_of most) old (going ++ moves.moved) moves.same in
    let sum = sum_by-append (most_of most) going moves.moved in
    let first = grown_going most going on in
    let rest = grown_ended most moves.moved moves.over in
    let gone = ap length moves.is in
    let both = length-append none moves.moved in
    let nothing = ap length empty in
    let long = ap length is in
    let joined = length-append after new in
    let all = few.all in
    omega (arith, same, sum, first, rest, gone, both, nothing, long, joined, all)

-- So they are within a limit that the path bound keeps.
pub settled_within : (p : ScriptPlan) (old grown new : List Path) (most bound : ℕ) → path_bound p ≤ limit.PATHS_MAX → most ≡ path_bound p → length grown ≤ most_grown (made_paths p) old → IsSettling grown new → most_grown most old ≤ bound → length new ≤ bound
settled_within p old grown new most bound small is few settling within =
    let same : made_paths p ≡ most = bound_is_count p (few_counted (path_bound p) small) ∙ sym is in
    let told : length grown ≤ most_grown most old = subst (λ (n : ℕ). length grown ≤ most_grown n old) same few in
    let less = settling.reduced.few in
    omega (arith, told, less, within)
