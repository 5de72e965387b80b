-- Paths that `not`, `and` and `or` part, from what the sides do.
use Rattle.std.proofs.Common.{◌≡◌, ◌≤◌, ℕ, Bool, true, false, not, List, [], ◌∷◌, ◌++◌, Option, Some, None, Result, Ok, Err, map, length, refl, sym, ap, ◌∙◌, subst, append_assoc, arith}
use Rattle.std.proofs.lemmas.List.{length-map}
use Rattle.std.specs.Prelude.{if◌then◌else◌}
use Rattle.sym_base.specs.declared.values.state.State.{State}
use Rattle.sym_base.specs.declared.values.state.Outcome.{Outcome}
use Rattle.sym_base.specs.declared.values.state.Outcome.TheVariants.{Going, Ended}
use Rattle.sym_check.specs.declared.evaluate.arithmetic.Arith.{Arith}
use Rattle.sym_check.specs.Meaning.Arithmetic.{◌>>=◌}
use Rattle.sym_check.specs.Meaning.Conditions.{test_truth, truth}
use Rattle.sym_check.specs.Plan.CondPlans.{CondPlan, Not, And, Or}
use Rattle.sym_check.specs.Meaning.FixedValues.{Environment}
use Rattle.sym_check.specs.Plan.ScriptPlans.{ScriptPlan}
use Rattle.sym_path.specs.declared.path.Path.{Path}
use Rattle.sym_explore.specs.Branches.{answered, tried, with_answer}
use Rattle.sym_explore.specs.Parting.{AreParts, at_state, those_failed, those_false, those_true}
use Rattle.sym_explore.proofs.PartedLists.{Judged, at_append}

-- What two functions make of each item, one after the other.
map_then : {A B C : Type 0} (f : A → B) (g : B → C) (h : A → C) (xs : List A) → ((x : A) → g (f x) ≡ h x) → map g (map f xs) ≡ map h xs
map_then f g h [] each = refl
map_then f g h (x ∷ xs) each =
    ap (λ y. y ∷ map g (map f xs)) (each x) ∙ ap (λ ys. h x ∷ ys) (map_then f g h xs each)

-- ---- not

-- An outcome with the other truth.
abbrev turn : Outcome × Option Bool → Outcome × Option Bool
turn (o, Some x) = (o, Some (not x))
turn (o, None) = (o, None)

answer_turned : (n : ℕ) (s : State) (r : Result Bool Arith) → turn (with_answer n s r) ≡ with_answer n s (r >>= λ x. Ok (not x))
answer_turned n s (Ok x) = refl
answer_turned n s (Err e) = refl

tried_not : (p : ScriptPlan) (k : Environment) (n : ℕ) (c : CondPlan) (o : Outcome) → turn (tried p k n c o) ≡ tried p k n (Not c) o
tried_not p k n c (Going s) = answer_turned n s (truth (test_truth p.tests) k c s)
tried_not p k n c (Ended fault) = refl

true_turned : (js : Judged) → those_true (map turn js) ≡ those_false js
true_turned [] = refl
true_turned ((o, Some true) ∷ js) = true_turned js
true_turned ((o, Some false) ∷ js) = ap (λ (os : List Outcome). o ∷ os) (true_turned js)
true_turned ((o, None) ∷ js) = true_turned js

false_turned : (js : Judged) → those_false (map turn js) ≡ those_true js
false_turned [] = refl
false_turned ((o, Some true) ∷ js) = ap (λ (os : List Outcome). o ∷ os) (false_turned js)
false_turned ((o, Some false) ∷ js) = false_turned js
false_turned ((o, None) ∷ js) = false_turned js

failed_turned : (js : Judged) → those_failed (map turn js) ≡ those_failed js
failed_turned [] = refl
failed_turned ((o, Some true) ∷ js) = failed_turned js
failed_turned ((o, Some false) ∷ js) = failed_turned js
failed_turned ((o, None) ∷ js) = ap (λ (os : List Outcome). o ∷ os) (failed_turned js)

pub not_parts : (p : ScriptPlan) (k : Environment) (n : ℕ) (whole c : CondPlan) → whole ≡ Not c → (old first none rest falses_before falses ended_before ended : List Path) → none ≡ [] → falses ≡ falses_before ++ first → AreParts p (tried p k n c) old first none rest ended_before ended → AreParts p (tried p k n whole) old rest falses_before falses ended_before ended
not_parts p k n whole c is old first none rest falses_before falses ended_before ended empty moved h =
    subst (λ (d : CondPlan). AreParts p (tried p k n d) old rest falses_before falses ended_before ended) (sym is)
    (λ s less.
    let os = at_state p old s in
    let js = map (tried p k n c) os in
    let same : map turn js ≡ map (tried p k n (Not c)) os = map_then (tried p k n c) turn (tried p k n (Not c)) os (tried_not p k n c) in
    let parts = h s less in
    record {
      trues =
          parts.falses
          ∙ ap (λ (ps : List Path). at_state p ps s ++ those_false js) empty
          ∙ sym (true_turned js) ∙ ap those_true same;
      falses =
          ap (λ (ps : List Path). at_state p ps s) moved
          ∙ at_append p falses_before first s
          ∙ ap (λ (rest : List Outcome). at_state p falses_before s ++ rest) (parts.trues ∙ sym (false_turned js) ∙ ap those_false same);
      ended =
          parts.ended
          ∙ ap (λ (rest : List Outcome). at_state p ended_before s ++ rest) (sym (failed_turned js) ∙ ap those_failed same);
    })

-- ---- the right side after the left one

-- What the right side of `and`, where true is wanted, or of `or`, where false is, makes of an outcome
-- on which the left side has a truth.
abbrev further : Bool → (Outcome → Outcome × Option Bool) → Outcome × Option Bool → Outcome × Option Bool
further true right (o, Some true) = right o
further true right (o, Some false) = (o, Some false)
further true right (o, None) = (o, None)
further false right (o, Some true) = (o, Some true)
further false right (o, Some false) = right o
further false right (o, None) = (o, None)

answer_and : (n : ℕ) (s : State) (r : Result Bool Arith) (right : State → Result Bool Arith) → further true (answered n right) (with_answer n s r) ≡ with_answer n s (r >>= λ x. if x then right s else Ok x)
answer_and n s (Ok true) right = refl
answer_and n s (Ok false) right = refl
answer_and n s (Err e) right = refl

answer_or : (n : ℕ) (s : State) (r : Result Bool Arith) (right : State → Result Bool Arith) → further false (answered n right) (with_answer n s r) ≡ with_answer n s (r >>= λ x. if x then Ok x else right s)
answer_or n s (Ok true) right = refl
answer_or n s (Ok false) right = refl
answer_or n s (Err e) right = refl

tried_and : (p : ScriptPlan) (k : Environment) (n : ℕ) (c d : CondPlan) (o : Outcome) → further true (tried p k n d) (tried p k n c o) ≡ tried p k n (And c d) o
tried_and p k n c d (Going s) = answer_and n s (truth (test_truth p.tests) k c s) (truth (test_truth p.tests) k d)
tried_and p k n c d (Ended fault) = refl

tried_or : (p : ScriptPlan) (k : Environment) (n : ℕ) (c d : CondPlan) (o : Outcome) → further false (tried p k n d) (tried p k n c o) ≡ tried p k n (Or c d) o
tried_or p k n c d (Going s) = answer_or n s (truth (test_truth p.tests) k c s) (truth (test_truth p.tests) k d)
tried_or p k n c d (Ended fault) = refl

length_true : (js : Judged) → length (those_true js) ≤ length js
length_true [] = omega arith
length_true ((o, Some true) ∷ js) = omega (arith, length_true js)
length_true ((o, Some false) ∷ js) = omega (arith, length_true js)
length_true ((o, None) ∷ js) = omega (arith, length_true js)

length_false : (js : Judged) → length (those_false js) ≤ length js
length_false [] = omega arith
length_false ((o, Some true) ∷ js) = omega (arith, length_false js)
length_false ((o, Some false) ∷ js) = omega (arith, length_false js)
length_false ((o, None) ∷ js) = omega (arith, length_false js)

module _ (left right both : Outcome → Outcome × Option Bool) where
  -- Of one outcome, with the truth that the left side has.
  and_true_of : (j k : Outcome × Option Bool) → further true right j ≡ k → those_true (map right (those_true (j ∷ []))) ≡ those_true (k ∷ [])
  and_true_of (o, Some true) k e = ap (λ x. those_true (x ∷ [])) e
  and_true_of (o, Some false) k e = ap (λ x. those_true (x ∷ [])) e
  and_true_of (o, None) k e = ap (λ x. those_true (x ∷ [])) e

  and_false_of : (j k : Outcome × Option Bool) → further true right j ≡ k → those_false (j ∷ []) ++ those_false (map right (those_true (j ∷ []))) ≡ those_false (k ∷ [])
  and_false_of (o, Some true) k e = ap (λ x. those_false (x ∷ [])) e
  and_false_of (o, Some false) k e = ap (λ x. those_false (x ∷ [])) e
  and_false_of (o, None) k e = ap (λ x. those_false (x ∷ [])) e

  and_failed_of : (j k : Outcome × Option Bool) → further true right j ≡ k → those_failed (j ∷ []) ++ those_failed (map right (those_true (j ∷ []))) ≡ those_failed (k ∷ [])
  and_failed_of (o, Some true) k e = ap (λ x. those_failed (x ∷ [])) e
  and_failed_of (o, Some false) k e = ap (λ x. those_failed (x ∷ [])) e
  and_failed_of (o, None) k e = ap (λ x. those_failed (x ∷ [])) e

  or_true_of : (j k : Outcome × Option Bool) → further false right j ≡ k → those_true (j ∷ []) ++ those_true (map right (those_false (j ∷ []))) ≡ those_true (k ∷ [])
  or_true_of (o, Some true) k e = ap (λ x. those_true (x ∷ [])) e
  or_true_of (o, Some false) k e = ap (λ x. those_true (x ∷ [])) e
  or_true_of (o, None) k e = ap (λ x. those_true (x ∷ [])) e

  or_false_of : (j k : Outcome × Option Bool) → further false right j ≡ k → those_false (map right (those_false (j ∷ []))) ≡ those_false (k ∷ [])
  or_false_of (o, Some true) k e = ap (λ x. those_false (x ∷ [])) e
  or_false_of (o, Some false) k e = ap (λ x. those_false (x ∷ [])) e
  or_false_of (o, None) k e = ap (λ x. those_false (x ∷ [])) e

  or_failed_of : (j k : Outcome × Option Bool) → further false right j ≡ k → those_failed (j ∷ []) ++ those_failed (map right (those_false (j ∷ []))) ≡ those_failed (k ∷ [])
  or_failed_of (o, Some true) k e = ap (λ x. those_failed (x ∷ [])) e
  or_failed_of (o, Some false) k e = ap (λ x. those_failed (x ∷ [])) e
  or_failed_of (o, None) k e = ap (λ x. those_failed (x ∷ [])) e

  -- Of no more than one.
  and_true : ((o : Outcome) → further true right (left o) ≡ both o) → (os : List Outcome) → length os ≤ 1 → those_true (map right (those_true (map left os))) ≡ those_true (map both os)
  and_true same [] less = refl
  and_true same (o ∷ []) less = and_true_of (left o) (both o) (same o)
  and_true same (o ∷ other ∷ os) less = absurd (omega (arith, less))

  and_false : ((o : Outcome) → further true right (left o) ≡ both o) → (os : List Outcome) → length os ≤ 1 → those_false (map left os) ++ those_false (map right (those_true (map left os))) ≡ those_false (map both os)
  and_false same [] less = refl
  and_false same (o ∷ []) less = and_false_of (left o) (both o) (same o)
  and_false same (o ∷ other ∷ os) less = absurd (omega (arith, less))

  and_failed : ((o : Outcome) → further true right (left o) ≡ both o) → (os : List Outcome) → length os ≤ 1 → those_failed (map left os) ++ those_failed (map right (those_true (map left os))) ≡ those_failed (map both os)
  and_failed same [] less = refl
  and_failed same (o ∷ []) less = and_failed_of (left o) (both o) (same o)
  and_failed same (o ∷ other ∷ os) less = absurd (omega (arith, less))

  or_true : ((o : Outcome) → further false right (left o) ≡ both o) → (os : List Outcome) → length os ≤ 1 → those_true (map left os) ++ those_true (map right (those_false (map left os))) ≡ those_true (map both os)
  or_true same [] less = refl
  or_true same (o ∷ []) less = or_true_of (left o) (both o) (same o)
  or_true same (o ∷ other ∷ os) less = absurd (omega (arith, less))

  or_false : ((o : Outcome) → further false right (left o) ≡ both o) → (os : List Outcome) → length os ≤ 1 → those_false (map right (those_false (map left os))) ≡ those_false (map both os)
  or_false same [] less = refl
  or_false same (o ∷ []) less = or_false_of (left o) (both o) (same o)
  or_false same (o ∷ other ∷ os) less = absurd (omega (arith, less))

  or_failed : ((o : Outcome) → further false right (left o) ≡ both o) → (os : List Outcome) → length os ≤ 1 → those_failed (map left os) ++ those_failed (map right (those_false (map left os))) ≡ those_failed (map both os)
  or_failed same [] less = refl
  or_failed same (o ∷ []) less = or_failed_of (left o) (both o) (same o)
  or_failed same (o ∷ other ∷ os) less = absurd (omega (arith, less))

-- What is added by the left side, and then by the right one to what it left.
added : (before middle after first next next_of both : List Outcome) → middle ≡ before ++ first → after ≡ middle ++ next → next ≡ next_of → first ++ next_of ≡ both → after ≡ before ++ both
added before middle after first next next_of both h g e all =
    g ∙ ap (λ (os : List Outcome). os ++ next) h
    ∙ append_assoc before first next
    ∙ ap (λ (os : List Outcome). before ++ os) (ap (λ (os : List Outcome). first ++ os) e ∙ all)

one_at_most : (m : Outcome → Outcome × Option Bool) (os next : List Outcome) → length os ≤ 1 → length next ≤ length (map m os) → length next ≤ 1
one_at_most m os next less h = let k = length-map os m in omega arith

pub and_parts : (p : ScriptPlan) (k : Environment) (n : ℕ) (whole c d : CondPlan) → whole ≡ And c d → (old first trues falses_before falses_middle falses ended_before ended_middle ended : List Path) → AreParts p (tried p k n c) old first falses_before falses_middle ended_before ended_middle → AreParts p (tried p k n d) first trues falses_middle falses ended_middle ended → AreParts p (tried p k n whole) old trues falses_before falses ended_before ended
and_parts p k n whole c d is old first trues falses_before falses_middle falses ended_before ended_middle ended h g =
    subst (λ (e : CondPlan). AreParts p (tried p k n e) old trues falses_before falses ended_before ended) (sym is)
    (λ s less.
    let os = at_state p old s in
    let left = tried p k n c in
    let right = tried p k n d in
    let both = tried p k n (And c d) in
    let one = h s less in
    let few : length (at_state p first s) ≤ 1 = subst (λ (xs : List Outcome). length xs ≤ 1) (sym one.trues) (one_at_most left os (those_true (map left os)) less (length_true (map left os))) in
    let two = g s few in
    record {
      trues = two.trues ∙ ap (λ (xs : List Outcome). those_true (map right xs)) one.trues ∙ and_true left right both (tried_and p k n c d) os less;
      falses =
          added (at_state p falses_before s) (at_state p falses_middle s) (at_state p falses s) (those_false (map left os)) (those_false (map right (at_state p first s))) (those_false (map right (those_true (map left os)))) (those_false (map both os))
          one.falses two.falses (ap (λ (xs : List Outcome). those_false (map right xs)) one.trues) (and_false left right both (tried_and p k n c d) os less);
      ended =
          added (at_state p ended_before s) (at_state p ended_middle s) (at_state p ended s) (those_failed (map left os)) (those_failed (map right (at_state p first s))) (those_failed (map right (those_true (map left os)))) (those_failed (map both os))
          one.ended two.ended (ap (λ (xs : List Outcome). those_failed (map right xs)) one.trues) (and_failed left right both (tried_and p k n c d) os less);
    })

pub or_parts : (p : ScriptPlan) (k : Environment) (n : ℕ) (whole c d : CondPlan) → whole ≡ Or c d → (old first none rest more trues falses_before falses ended_before ended_middle ended : List Path) → none ≡ [] → trues ≡ first ++ more → AreParts p (tried p k n c) old first none rest ended_before ended_middle → AreParts p (tried p k n d) rest more falses_before falses ended_middle ended → AreParts p (tried p k n whole) old trues falses_before falses ended_before ended
or_parts p k n whole c d is old first none rest more trues falses_before falses ended_before ended_middle ended empty moved h g =
    subst (λ (e : CondPlan). AreParts p (tried p k n e) old trues falses_before falses ended_before ended) (sym is)
    (λ s less.
    let os = at_state p old s in
    let left = tried p k n c in
    let right = tried p k n d in
    let both = tried p k n (Or c d) in
    let one = h s less in
    let left_false : at_state p rest s ≡ those_false (map left os) = one.falses ∙ ap (λ (ps : List Path). at_state p ps s ++ those_false (map left os)) empty in
    let few : length (at_state p rest s) ≤ 1 = subst (λ (xs : List Outcome). length xs ≤ 1) (sym left_false) (one_at_most left os (those_false (map left os)) less (length_false (map left os))) in
    let two = g s few in
    record {
      trues =
          ap (λ (ps : List Path). at_state p ps s) moved ∙ at_append p first more s
          ∙ added [] (at_state p first s) (at_state p first s ++ at_state p more s) (those_true (map left os)) (at_state p more s) (those_true (map right (those_false (map left os)))) (those_true (map both os))
          one.trues refl (two.trues ∙ ap (λ (xs : List Outcome). those_true (map right xs)) left_false) (or_true left right both (tried_or p k n c d) os less);
      falses =
          two.falses
          ∙ ap (λ (xs : List Outcome). at_state p falses_before s ++ xs)
          (ap (λ (xs : List Outcome). those_false (map right xs)) left_false ∙ or_false left right both (tried_or p k n c d) os less);
      ended =
          added (at_state p ended_before s) (at_state p ended_middle s) (at_state p ended s) (those_failed (map left os)) (those_failed (map right (at_state p rest s))) (those_failed (map right (those_false (map left os)))) (those_failed (map both os))
          one.ended two.ended (ap (λ (xs : List Outcome). those_failed (map right xs)) left_false) (or_failed left right both (tried_or p k n c d) os less);
    })
