-- What lists of paths give: in another order, and where those that have ended move away.
use Rattle.std.proofs.Common.{◌≡◌, ◌≢◌, ◌≤◌, ◌<◌, ◌+◌, get_or, ℕ, Bool, true, false, List, [], ◌∷◌, ◌++◌, ◌⊎◌, inl, inr, map, length, refl, sym, ap, ◌∙◌, subst, append_assoc, arith}
use Rattle.std.proofs.Math.Seq.{drop-append_seam, take-append_seam}
use Rattle.std.proofs.lemmas.List.{append-nil, length-append, length-map}
use Rattle.std.proofs.lemmas.List.Elements.{All-nil, All-cons, All-head, All-tail, All-append, All-drop, All-push, All-take, All-weaker}
use Rattle.std.proofs.lemmas.List.Sorted.{All-permutation, IsPermutation-append_left, IsPermutation-refl, IsPermutation-swap_remove, IsPermutation-sym, IsPermutation-to_front, IsPermutation-trans, length_permutation, sum_by-IsPermutation}
use Rattle.std.proofs.lemmas.List.Sums.{sum_by-cons}
use Rattle.std.specs.Prelude.{if◌then◌else◌, sum_by}
use Rattle.std.specs.List.{All, AllWithin, swap_remove}
use Rattle.std.specs.List.Sorted.{IsPermutation}
use Rattle.sym_base.specs.Tests.{Truth}
use Rattle.sym_base.specs.declared.values.state.State.{State}
use Rattle.sym_base.specs.declared.values.state.Outcome.{Outcome}
use Rattle.sym_base.specs.declared.values.state.Outcome.TheVariants.{Going}
use Rattle.sym_base.specs.declared.values.state.Outcome.TheVariants as outcome
use Rattle.sym_check.specs.Meaning.Conditions.{test_truth}
use Rattle.sym_check.specs.Plan.ScriptPlans.{ScriptPlan}
use Rattle.sym_path.specs.declared.path.Path.{Path}
use Rattle.sym_path.specs.declared.path.PathEnd.{PathEnd}
use Rattle.sym_path.specs.declared.path.PathEnd.TheVariants.{Next, Ended}
use Rattle.sym_path.specs.Admitting.{admits}
use Rattle.sym_path.specs.Changing.{GoesOn}
use Rattle.sym_path.specs.Giving.{end_at, given, outcomes}
use Rattle.sym_explore.specs.Ending.{AreMoved, AreParted}
use Rattle.sym_explore.specs.Parting.{AllGoOn, AreRun, those_ended, those_going}
use Rattle.sym_explore.proofs.PathRanges.{going_append, over_gives}

-- ---- lists of at most one outcome

pub nil_both : (xs ys : List Outcome) → xs ++ ys ≡ [] → (xs ≡ []) × (ys ≡ [])
nil_both [] ys e = (refl, e)
nil_both (x ∷ xs) ys e = let longer : x ∷ (xs ++ ys) ≡ [] = e in absurd (cc)

one_both : (xs ys : List Outcome) (o : Outcome) → xs ++ ys ≡ o ∷ [] → ((xs ≡ []) × (ys ≡ o ∷ [])) ⊎ ((xs ≡ o ∷ []) × (ys ≡ []))
one_both [] ys o e = inl (refl, e)
one_both (x ∷ xs) ys o e =
    let whole : x ∷ (xs ++ ys) ≡ o ∷ [] = e in
    let first : x ≡ o = cc in
    let rest : xs ++ ys ≡ [] = cc in
    let both = nil_both xs ys rest in
    inr ((λ i. first i ∷ both.0 i), both.1)

no_items : (xs : List Outcome) → length xs ≡ 0 → xs ≡ []
no_items [] e = refl
no_items (x ∷ xs) e = absurd (omega (arith, e))

-- Two lists, of which one is empty, and what comes of them.
pub interleaved : (f : Outcome → Outcome) (xs ys added given more rest : List Outcome) → length (xs ++ ys) ≤ 1 → added ++ given ≡ map f xs → more ++ rest ≡ map f ys → (added ++ more) ++ (given ++ rest) ≡ map f (xs ++ ys)
interleaved f [] ys added given more rest few a b =
    let none = nil_both added given a in
    (λ i. (none.0 i ++ more) ++ (none.1 i ++ rest)) ∙ b
interleaved f (x ∷ xs) [] added given more rest few a b =
    let none = nil_both more rest b in
    (λ i. (added ++ none.0 i) ++ (given ++ none.1 i))
    ∙ (λ i. append-nil added i ++ append-nil given i)
    ∙ a
    ∙ ap (map f) (sym (append-nil (x ∷ xs)))
interleaved f (x ∷ xs) (y ∷ ys) added given more rest few a b = absurd (omega (arith, length-append xs (y ∷ ys)))

pub ended_append : (xs ys : List Outcome) → those_ended (xs ++ ys) ≡ those_ended xs ++ those_ended ys
ended_append [] ys = refl
ended_append (Going s ∷ xs) ys = ended_append xs ys
ended_append (outcome.Ended fault ∷ xs) ys = ap (λ (os : List Outcome). outcome.Ended fault ∷ os) (ended_append xs ys)

-- Where none goes on, all have ended.
pub none_going : (xs : List Outcome) → those_going xs ≡ [] → those_ended xs ≡ xs
none_going [] e = refl
none_going (Going s ∷ xs) e = absurd (cc)
none_going (outcome.Ended fault ∷ xs) e = ap (λ (os : List Outcome). outcome.Ended fault ∷ os) (none_going xs e)

-- ---- what paths give

pub outcomes_append : (truth : Truth) (xs ys : List Path) (s : State) → outcomes truth (xs ++ ys) s ≡ outcomes truth xs s ++ outcomes truth ys s
outcomes_append truth [] ys s = refl
outcomes_append truth (x ∷ xs) ys s =
    ap (λ (os : List Outcome). given truth x s ++ os) (outcomes_append truth xs ys s)
    ∙ sym (append_assoc (given truth x s) (outcomes truth xs s) (outcomes truth ys s))

module _ (truth : Truth) (s : State) where
  goes_given : (path : Path) → GoesOn path.end → (those_going (given truth path s) ≡ given truth path s) × (those_ended (given truth path s) ≡ [])
  goes_given path goes = go path.end (admits truth path.when s.cells) goes
    where
      gives : PathEnd → Bool → List Outcome
      gives end a = if a then end_at end s ∷ [] else []

      go : (end : PathEnd) (a : Bool) → GoesOn end → (those_going (gives end a) ≡ gives end a) × (those_ended (gives end a) ≡ [])
      go (Next forms) true h = (refl, refl)
      go (Next forms) false h = (refl, refl)
      go (Ended fault) a h = absurd h

  pub all_going : (xs : List Path) → AllGoOn xs → (those_going (outcomes truth xs s) ≡ outcomes truth xs s) × (those_ended (outcomes truth xs s) ≡ [])
  all_going [] h = (refl, refl)
  all_going (x ∷ xs) h =
      let first = goes_given x (All-head (λ (q : Path). GoesOn q.end) x xs h) in
      let rest = all_going xs (All-tail (λ (q : Path). GoesOn q.end) x xs h) in (
        going_append (given truth x s) (outcomes truth xs s) ∙ (λ i. first.0 i ++ rest.0 i),
        ended_append (given truth x s) (outcomes truth xs s) ∙ (λ i. first.1 i ++ rest.1 i),
      )

  pub all_over : (xs : List Path) → All (λ (q : Path). ¬ (GoesOn q.end)) xs → those_going (outcomes truth xs s) ≡ []
  all_over [] h = refl
  all_over (x ∷ xs) h =
      going_append (given truth x s) (outcomes truth xs s)
      ∙ (λ i. over_gives truth x s (All-head (λ (q : Path). ¬ (GoesOn q.end)) x xs h) i ++ all_over xs (All-tail (λ (q : Path). ¬ (GoesOn q.end)) x xs h) i)

  -- ---- another order

  abbrev GivesNone : Path → Type 0
  GivesNone q = given truth q s ≡ []

  abbrev GivesAtMost : Outcome → Path → Type 0
  GivesAtMost o q = GivesNone q ⊎ (given truth q s ≡ o ∷ [])

  all_none : (xs : List Path) → outcomes truth xs s ≡ [] → All GivesNone xs
  all_none [] e = All-nil GivesNone
  all_none (x ∷ xs) e =
      let both = nil_both (given truth x s) (outcomes truth xs s) e in
      All-cons GivesNone x xs both.0 (all_none xs both.1)

  none_all : (xs : List Path) → All GivesNone xs → outcomes truth xs s ≡ []
  none_all [] h = refl
  none_all (x ∷ xs) h = λ i. All-head GivesNone x xs h i ++ none_all xs (All-tail GivesNone x xs h) i

  all_one : (xs : List Path) (o : Outcome) → outcomes truth xs s ≡ o ∷ [] → All (GivesAtMost o) xs
  all_one [] o e = absurd (cc)
  all_one (x ∷ xs) o e = elim (one_both (given truth x s) (outcomes truth xs s) o e) [
    | inl (none, rest) ↦ All-cons (GivesAtMost o) x xs (inl none) (all_one xs o rest)
    | inr (one, rest) ↦ All-cons (GivesAtMost o) x xs (inr one) (All-weaker GivesNone (GivesAtMost o) (λ q h. inl h) xs (all_none xs rest))
  ]

  abbrev gives_count : Path → ℕ
  gives_count q = length (given truth q s)

  counted : (xs : List Path) → length (outcomes truth xs s) ≡ sum_by gives_count xs
  counted [] = refl
  counted (x ∷ xs) =
      length-append (given truth x s) (outcomes truth xs s)
      ∙ ap (λ (n : ℕ). gives_count x + n) (counted xs)
      ∙ sym (sum_by-cons gives_count x xs)

  one_all : (xs : List Path) (o : Outcome) → All (GivesAtMost o) xs → length (outcomes truth xs s) ≡ 1 → outcomes truth xs s ≡ o ∷ []
  one_all [] o h e = absurd (omega (arith, e))
  one_all (x ∷ xs) o h e =
      let sum = length-append (given truth x s) (outcomes truth xs s) in
      elim (All-head (GivesAtMost o) x xs h) [
        | inl none ↦
            let zero_is : length (given truth x s) ≡ 0 = ap length none in
            let rest : length (outcomes truth xs s) ≡ 1 = omega (arith, sum, e, zero_is) in
            ap (λ (os : List Outcome). os ++ outcomes truth xs s) none ∙ one_all xs o (All-tail (GivesAtMost o) x xs h) rest
        | inr one ↦
            let one_is : length (given truth x s) ≡ 1 = ap length one in
            let rest : length (outcomes truth xs s) ≡ 0 = omega (arith, sum, e, one_is) in
            (λ i. one i ++ no_items (outcomes truth xs s) rest i)
      ]

  -- Paths in another order give the same where at most one of them admits the state.
  pub same_order : (xs ys : List Path) → IsPermutation xs ys → length (outcomes truth xs s) ≤ 1 → outcomes truth ys s ≡ outcomes truth xs s
  same_order xs ys h few = go (outcomes truth xs s) refl few
    where
      go : (os : List Outcome) → outcomes truth xs s ≡ os → length os ≤ 1 → outcomes truth ys s ≡ outcomes truth xs s
      go [] e few = none_all ys (All-permutation GivesNone xs ys h (all_none xs e)) ∙ sym e
      go (o ∷ []) e few =
          let one : length (outcomes truth xs s) ≡ 1 = ap length e in
          let same : length (outcomes truth ys s) ≡ length (outcomes truth xs s) = counted ys ∙ sum_by-IsPermutation gives_count xs ys h ∙ sym (counted xs) in
          one_all ys o (All-permutation (GivesAtMost o) xs ys h (all_one xs o e)) (same ∙ one) ∙ sym e
      go (o ∷ (q ∷ os)) e few = absurd (omega arith)

-- ---- paths of which those that have ended move away

module _ (p : ScriptPlan) (step : Outcome → Outcome) (old mid new before between after : List Path) where
  pub run_exact : AreParted p false step old mid before between → AreMoved mid new between after → AllGoOn new → AreRun p step old new before after
  run_exact parted moves goes s few =
      let T = test_truth p.tests in
      let at = parted s few in
      let made : List Outcome = map step (outcomes T old s) in
      let stay : List Outcome = outcomes T new s in
      let over : List Outcome = outcomes T moves.moved s in
      let few_made : length made ≤ 1 = subst (λ (n : ℕ). n ≤ 1) (sym (length-map (outcomes T old s) step)) few in
      let few_mid : length (outcomes T mid s) ≤ 1 = omega (arith, length-append at.added (outcomes T mid s), ap length at.gives, few_made) in
      let split : outcomes T mid s ≡ stay ++ over = sym (same_order T s mid (new ++ moves.moved) moves.same few_mid) ∙ outcomes_append T new moves.moved s in
      let whole : made ≡ at.added ++ (stay ++ over) = sym at.gives ∙ ap (λ (os : List Outcome). at.added ++ os) split in
      let going = all_going T s new goes in
      let gone : those_going over ≡ [] = all_over T s moves.moved moves.over in
      record {
        going = sym (
            ap those_going whole
            ∙ going_append at.added (stay ++ over)
            ∙ (λ i. at.over refl i ++ those_going (stay ++ over))
            ∙ going_append stay over
            ∙ (λ i. going.0 i ++ gone i)
            ∙ append-nil stay);
        ended =
            ap (λ (ps : List Path). outcomes T ps s) moves.is
            ∙ outcomes_append T between moves.moved s
            ∙ ap (λ (os : List Outcome). os ++ over) at.others
            ∙ append_assoc (outcomes T before s) at.added over
            ∙ ap (λ (os : List Outcome). outcomes T before s ++ os) (sym (
            ap those_ended whole
            ∙ ended_append at.added (stay ++ over)
            ∙ (λ i. none_going at.added (at.over refl) i ++ those_ended (stay ++ over))
            ∙ ap (λ (os : List Outcome). at.added ++ os) (ended_append stay over ∙ (λ i. going.1 i ++ none_going over gone i))));
      }

-- What is true of all paths is true of both lists.
module _ (P : Path → Type 0) (mid new between after : List Path) (moves : AreMoved mid new between after) where
  both : All P mid → All P (new ++ moves.moved)
  both h = All-permutation P mid (new ++ moves.moved) moves.same h

  pub moved_stay : All P mid → All P new
  moved_stay h = subst (All P) (take-append_seam new moves.moved) (All-take P (length new) (new ++ moves.moved) (both h))

  pub moved_away : All P mid → All P between → All P after
  moved_away h others =
      subst (All P) (sym moves.is)
      (All-append P between moves.moved others (subst (All P) (drop-append_seam new moves.moved) (All-drop P (length new) (new ++ moves.moved) (both h))))

pub moved_count : (mid new between after : List Path) → AreMoved mid new between after → length new + length after ≡ length mid + length between
moved_count mid new between after moves =
    let a = length_permutation mid (new ++ moves.moved) moves.same in
    let b = length-append new moves.moved in
    let c = ap length moves.is in
    let d = length-append between moves.moved in
    omega (arith, a, b, c, d)

-- ---- moving them, one by one

pub none_moved : (paths others : List Path) → AreMoved paths paths others others
none_moved paths others = record {
  moved = [];
  is = sym (append-nil others);
  same = subst (IsPermutation paths) (sym (append-nil paths)) (IsPermutation-refl paths);
  over = All-nil (λ (q : Path). ¬ (GoesOn q.end));
}

-- One path more that has ended is moved, and the last one takes its place.
pub move_more : (old paths before others : List Path) (i : ℕ) (path : Path) (later after : List Path) → i < length paths → path ≡ get_or paths i path → ¬ (GoesOn path.end) → later ≡ swap_remove paths i path → after ≡ others ++ path ∷ [] → AreMoved old paths before others → AreMoved old later before after
move_more old paths before others i path later after below here over rest pushed h =
    let moved : List Path = h.moved ++ path ∷ [] in
    let taken : IsPermutation paths (path ∷ later) = subst (λ (ps : List Path). IsPermutation paths (path ∷ ps)) (sym rest) (IsPermutation-swap_remove paths i path below here) in
    let first : IsPermutation (paths ++ h.moved) (path ∷ (later ++ h.moved)) = IsPermutation-append_left h.moved paths (path ∷ later) taken in
    let last : IsPermutation (path ∷ (later ++ h.moved)) ((later ++ h.moved) ++ path ∷ []) = IsPermutation-sym ((later ++ h.moved) ++ path ∷ []) (path ∷ (later ++ h.moved)) (IsPermutation-to_front (later ++ h.moved) path) in
    let all : IsPermutation old ((later ++ h.moved) ++ path ∷ []) = IsPermutation-trans old (paths ++ h.moved) ((later ++ h.moved) ++ path ∷ []) h.same (IsPermutation-trans (paths ++ h.moved) (path ∷ (later ++ h.moved)) ((later ++ h.moved) ++ path ∷ []) first last) in
    record {
      moved = moved;
      is = pushed ∙ ap (λ (ps : List Path). ps ++ path ∷ []) h.is ∙ append_assoc before h.moved (path ∷ []);
      same = subst (IsPermutation old) (append_assoc later h.moved (path ∷ [])) all;
      over = All-push (λ (q : Path). ¬ (GoesOn q.end)) h.moved path h.over over;
    }

-- They still do where one after them is taken away.
pub within_removed : (paths later : List Path) (i : ℕ) → i < length paths → ((k : ℕ) (d : Path) → k ≢ i → k + 1 < length paths → get_or later k d ≡ get_or paths k d) → AllWithin (λ (q : Path). GoesOn q.end) paths 0 i → AllWithin (λ (q : Path). GoesOn q.end) later 0 i
within_removed paths later i below same h k d low high =
    subst (λ (q : Path). GoesOn q.end) (sym (same k d (λ e. omega (arith, e)) (omega arith))) (h k d low high)
