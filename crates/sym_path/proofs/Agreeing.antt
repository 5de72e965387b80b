-- Composition is associative, depends only on what segments give, and the path of all is neutral.
use Rattle.std.proofs.Common.{◌≡◌, ◌≤◌, ◌↔◌, ◌⊎◌, zero, suc, Bool, true, false, List, [], ◌∷◌, ◌++◌, inl, inr, length, refl, sym, ap, ◌∙◌, subst, arith, append-nil, length-append}
use Rattle.std.proofs.lemmas.Grind.{flat_map-append}
use Rattle.std.proofs.lemmas.List.Elements.{All-cons, All-head, All-nil, All-tail, Contains-append_cases, Contains-append_left, Contains-append_right}
use Rattle.std.specs.List.{All, Contains, flat_map}
use Rattle.std.specs.Prelude.{IsTrue, if◌then◌else◌}
use Rattle.sym_base.specs.Tests.{Truth}
use Rattle.sym_base.specs.declared.values.state.State.{State}
use Rattle.sym_base.specs.declared.values.state.Outcome.{Outcome}
use Rattle.sym_base.specs.declared.values.state.Outcome.TheVariants.{Going}
use Rattle.sym_base.specs.declared.values.state.Outcome.TheVariants as outcome
use Rattle.sym_check.specs.Meaning.Conditions.{test_truth}
use Rattle.sym_check.specs.Meaning.Validity.{IsValid, IsValidOutcome}
use Rattle.sym_check.specs.Plan.ScriptPlans.{ScriptPlan}
use Rattle.sym_path.specs.declared.path.Path.{Path}
use Rattle.sym_path.specs.declared.path.PathEnd.{PathEnd}
use Rattle.sym_path.specs.declared.path.PathEnd.TheVariants.{Next, Ended}
use Rattle.sym_path.specs.declared.part.Part.{Part}
use Rattle.sym_path.specs.Admitting.{admits}
use Rattle.sym_path.specs.Composing.{AreComposedBothWays, IsComposition, given_after, given_by_both, given_by_three}
use Rattle.sym_path.specs.Fitting.{PathFits, SegmentFits}
use Rattle.sym_path.specs.Giving.{AgreeAt, Gives, end_at, given, outcomes}
use Rattle.sym_path.specs.Identity.{AdmitsAll, IsWholeEnd, IsWholePath, LeavesAll}
use Rattle.sym_path.specs.Standing.{EndsAmong, StandsFor}
use Rattle.sym_path.proofs.AmongOutcomes.{gives_is, no_item, one_item}
use Rattle.sym_path.proofs.Decided.{admits_decided}
use Rattle.sym_path.proofs.Fitted.{end_valid}
use Rattle.sym_path.proofs.OnlyOutcomes.{only_outcome}

-- ---- lists

module _ {A B : Type 0} (f : A → List B) where
  out_cases : (x : A) (xs : List A) (o : B) → (Contains (flat_map f xs) o → (y : A) × Contains xs y × Contains (f y) o) → Contains (f x) o ⊎ Contains (flat_map f xs) o → (y : A) × Contains (x ∷ xs) y × Contains (f y) o
  out_cases x xs o more (inl h) = (x, Contains-append_left (x ∷ []) xs x (one_item x x refl), h)
  out_cases x xs o more (inr h) = let (y, within, has) = more h in (y, Contains-append_right (x ∷ []) xs y within, has)

  pub out_of : (xs : List A) (o : B) → Contains (flat_map f xs) o → (x : A) × Contains xs x × Contains (f x) o
  out_of [] o h = absurd (no_item o h)
  out_of (x ∷ xs) o h = out_cases x xs o (out_of xs o) (Contains-append_cases (f x) (flat_map f xs) o h)

  pub into : (xs : List A) (x : A) (o : B) → Contains xs x → Contains (f x) o → Contains (flat_map f xs) o
  into [] x o h k = absurd (no_item x h)
  into (y ∷ xs) x o (zero, within, is) k = Contains-append_left (f y) (flat_map f xs) o (subst (λ (z : A). Contains (f z) o) (sym is) k)
  into (y ∷ xs) x o (suc i, within, is) k = Contains-append_right (f y) (flat_map f xs) o (into xs x o (i, omega arith, is) k)

flat_map_twice : {A B C : Type 0} (f : A → List B) (g : B → List C) (xs : List A) → flat_map g (flat_map f xs) ≡ flat_map (λ (x : A). flat_map g (f x)) xs
flat_map_twice f g [] = refl
flat_map_twice {A} {B} {C} f g (x ∷ xs) =
    flat_map-append g (f x) (flat_map f xs)
    ∙ ap (λ (ys : List C). flat_map g (f x) ++ ys) (flat_map_twice f g xs)

-- Lists that agree go over to lists that agree.
module _ {A B : Type 0} (f g : A → List B) (same : (x : A) (o : B) → Contains (f x) o → Contains (g x) o) where
  pub carried : (xs ys : List A) (o : B) → ((x : A) → Contains xs x → Contains ys x) → Contains (flat_map f xs) o → Contains (flat_map g ys) o
  carried xs ys o more h = let (x, within, has) = out_of f xs o h in into g ys x o (more x within) (same x o has)

-- ---- outcomes after outcomes

module _ (truth : Truth) where
  -- Segments that agree at each state give the same after each outcome.
  pub after_agrees : (paths others : List Path) → ((s : State) → AgreeAt truth paths others s) → (x o : Outcome) → Contains (given_after truth paths x) o → Contains (given_after truth others x) o
  after_agrees paths others agree (Going s) o h = (gives_is truth others s o).0 ((agree s o).0 ((gives_is truth paths s o).1 h))
  after_agrees paths others agree (outcome.Ended fault) o h = h

  turned : (paths others : List Path) → ((s : State) → AgreeAt truth paths others s) → (s : State) → AgreeAt truth others paths s
  turned paths others agree s = λ o. ((agree s o).1, (agree s o).0)

  both_agree : (left right others_left others_right : List Path) (s : State) (o : Outcome) → ((s : State) → AgreeAt truth left others_left s) → ((s : State) → AgreeAt truth right others_right s) → Contains (given_by_both truth left right s) o → Contains (given_by_both truth others_left others_right s) o
  both_agree left right others_left others_right s o first second h =
      carried (given_after truth right) (given_after truth others_right) (after_agrees right others_right second)
      (outcomes truth left s) (outcomes truth others_left s) o (λ x k. after_agrees left others_left first (Going s) x k) h

pub composed_alike : (p : ScriptPlan) (left right others_left others_right both others : List Path) → ((s : State) → AgreeAt (test_truth p.tests) left others_left s) → ((s : State) → AgreeAt (test_truth p.tests) right others_right s) → IsComposition p left right both → IsComposition p others_left others_right others → (s : State) → AgreeAt (test_truth p.tests) both others s
composed_alike p left right others_left others_right both others first second h k s = λ o.
    let truth : Truth = test_truth p.tests in (
      λ g. (k.agrees s o).1 (both_agree truth left right others_left others_right s o first second ((h.agrees s o).0 g)),
      λ g. (h.agrees s o).1 (both_agree truth others_left others_right left right s o (turned truth left others_left first) (turned truth right others_right second) ((k.agrees s o).0 g)),
    )

-- ---- three segments

module _ (p : ScriptPlan) (first second third from_left from_right : List Path) (ways : AreComposedBothWays p first second third from_left from_right) where
  abbrev truth : Truth
  truth = test_truth p.tests

  -- What the last two segments give in turn after an outcome.
  abbrev in_turn : Outcome → List Outcome
  in_turn x = flat_map (given_after truth third) (given_after truth second x)

  all_three : (s : State) → given_by_three truth first second third s ≡ flat_map in_turn (outcomes truth first s)
  all_three s = flat_map_twice (given_after truth second) (given_after truth third) (outcomes truth first s)

  -- From the left: what the first two give, and then the third.
  left_two : (s : State) (x : Outcome) → Contains (outcomes truth ways.left s) x ↔ Contains (given_by_both truth first second s) x
  left_two s x = (
    λ h. (ways.first_two.agrees s x).0 ((gives_is truth ways.left s x).1 h),
    λ h. (gives_is truth ways.left s x).0 ((ways.first_two.agrees s x).1 h),
  )

  by_left : (s : State) (o : Outcome) → Gives truth from_left s o ↔ Contains (given_by_three truth first second third s) o
  by_left s o = (
    λ h. carried (given_after truth third) (given_after truth third) (λ x y k. k) (outcomes truth ways.left s) (given_by_both truth first second s) o (λ x k. (left_two s x).0 k) ((ways.then_third.agrees s o).0 h),
    λ h. (ways.then_third.agrees s o).1 (carried (given_after truth third) (given_after truth third) (λ x y k. k) (given_by_both truth first second s) (outcomes truth ways.left s) o (λ x k. (left_two s x).1 k) h),
  )

  -- From the right: what the first gives, and then the last two.
  right_two : (x o : Outcome) → Contains (given_after truth ways.right x) o ↔ Contains (in_turn x) o
  right_two (Going s) o = (
    λ h. (ways.last_two.agrees s o).0 ((gives_is truth ways.right s o).1 h),
    λ h. (gives_is truth ways.right s o).0 ((ways.last_two.agrees s o).1 h),
  )
  right_two (outcome.Ended fault) o = (λ h. h, λ h. h)

  by_right : (s : State) (o : Outcome) → Gives truth from_right s o ↔ Contains (flat_map in_turn (outcomes truth first s)) o
  by_right s o = (
    λ h. carried (given_after truth ways.right) in_turn (λ x y k. (right_two x y).0 k) (outcomes truth first s) (outcomes truth first s) o (λ x k. k) ((ways.after_first.agrees s o).0 h),
    λ h. (ways.after_first.agrees s o).1 (carried in_turn (given_after truth ways.right) (λ x y k. (right_two x y).1 k) (outcomes truth first s) (outcomes truth first s) o (λ x k. k) h),
  )

  pub both_ways_agree : (s : State) → AgreeAt truth from_left from_right s
  both_ways_agree s = λ o.
      let same : given_by_three truth first second third s ≡ flat_map in_turn (outcomes truth first s) = all_three s in (
        λ g. (by_right s o).1 (subst (λ (os : List Outcome). Contains os o) same ((by_left s o).0 g)),
        λ g. (by_left s o).1 (subst (λ (os : List Outcome). Contains os o) (sym same) ((by_right s o).0 g)),
      )

  -- The same lists, where few outcomes are given.
  left_same : (s : State) → length (given_by_both truth first second s) ≤ 1 → length (given_by_three truth first second third s) ≤ 1 → outcomes truth from_left s ≡ given_by_three truth first second third s
  left_same s two three =
      let same : given_by_both truth ways.left third s ≡ given_by_three truth first second third s = ap (λ (os : List Outcome). flat_map (given_after truth third) os) (ways.first_two.gives s two) in
      ways.then_third.gives s (omega (arith, ap length same, three)) ∙ same

  turn_same : (x : Outcome) → length (in_turn x) ≤ 1 → given_after truth ways.right x ≡ in_turn x
  turn_same (Going s) few = ways.last_two.gives s few
  turn_same (outcome.Ended fault) few = refl

  turns_same : (xs : List Outcome) → length (flat_map in_turn xs) ≤ 1 → flat_map (given_after truth ways.right) xs ≡ flat_map in_turn xs
  turns_same [] few = refl
  turns_same (x ∷ xs) few =
      let long = length-append (in_turn x) (flat_map in_turn xs) in
      ap (λ (os : List Outcome). os ++ flat_map (given_after truth ways.right) xs) (turn_same x (omega (arith, long, few)))
      ∙ ap (λ (os : List Outcome). in_turn x ++ os) (turns_same xs (omega (arith, long, few)))

  right_same : (s : State) → length (given_by_three truth first second third s) ≤ 1 → outcomes truth from_right s ≡ given_by_three truth first second third s
  right_same s three =
      let turned : given_by_three truth first second third s ≡ flat_map in_turn (outcomes truth first s) = all_three s in
      let few : length (flat_map in_turn (outcomes truth first s)) ≤ 1 = omega (arith, ap length turned, three) in
      let same : given_by_both truth first ways.right s ≡ given_by_three truth first second third s = turns_same (outcomes truth first s) few ∙ sym turned in
      ways.after_first.gives s (omega (arith, ap length same, three)) ∙ same

  pub both_ways_same : (s : State) → length (given_by_both truth first second s) ≤ 1 → length (given_by_three truth first second third s) ≤ 1 → outcomes truth from_left s ≡ outcomes truth from_right s
  both_ways_same s two three = left_same s two three ∙ sym (right_same s three)

-- ---- a path that leaves each valid state as it is

module _ (p : ScriptPlan) (all : Path) (admitted : AdmitsAll p all) (leaves : LeavesAll p all) where
  abbrev own : Truth
  own = test_truth p.tests

  alone : (s : State) → IsValid p s → outcomes own (all ∷ []) s ≡ Going s ∷ []
  alone s v =
      let holds : admits own all.when s.cells ≡ true = (admits_decided own all.when s).1 (admitted own s v) in
      ap (λ (b : Bool). (if b then end_at all.end s ∷ [] else []) ++ []) holds ∙ ap (λ (o : Outcome). o ∷ []) (leaves s v)

  first_same : (paths : List Path) (s : State) → IsValid p s → given_by_both own (all ∷ []) paths s ≡ outcomes own paths s
  first_same paths s v = ap (λ (os : List Outcome). flat_map (given_after own paths) os) (alone s v) ∙ append-nil (outcomes own paths s)

  stays : (o : Outcome) → IsValidOutcome p o → flat_map (given_after own (all ∷ [])) (o ∷ []) ≡ o ∷ []
  stays (Going s) v = append-nil (outcomes own (all ∷ []) s) ∙ alone s v
  stays (outcome.Ended fault) v = refl

  path_stays : (when : List Part) (end : PathEnd) (s : State) (b : Bool) → (IsTrue b → IsValidOutcome p (end_at end s)) → flat_map (given_after own (all ∷ [])) (if b then end_at end s ∷ [] else []) ≡ (if b then end_at end s ∷ [] else [])
  path_stays when end s true v = stays (end_at end s) (v refl)
  path_stays when end s false v = refl

  last_same : (paths : List Path) (s : State) → SegmentFits p paths → IsValid p s → given_by_both own paths (all ∷ []) s ≡ outcomes own paths s
  last_same [] s fits v = refl
  last_same (path ∷ paths) s fits v =
      let fit : PathFits p path = All-head (PathFits p) path paths fits in
      let here = path_stays path.when path.end s (admits own path.when s.cells) (λ t. end_valid own p path.when path.end s fit.end ((admits_decided own path.when s).0 t) v) in
      flat_map-append (given_after own (all ∷ [])) (given own path s) (outcomes own paths s)
      ∙ ap (λ (os : List Outcome). os ++ flat_map (given_after own (all ∷ [])) (outcomes own paths s)) here
      ∙ ap (λ (os : List Outcome). given own path s ++ os) (last_same paths s (All-tail (PathFits p) path paths fits) v)

  module _ (paths segment : List Path) (s : State) (v : IsValid p s) where
    agrees_by : (left right : List Path) → IsComposition p left right segment → given_by_both own left right s ≡ outcomes own paths s → AgreeAt own segment paths s
    agrees_by left right h same = λ o. (
      λ g. (gives_is own paths s o).1 (subst (λ (os : List Outcome). Contains os o) same ((h.agrees s o).0 g)),
      λ g. (h.agrees s o).1 (subst (λ (os : List Outcome). Contains os o) (sym same) ((gives_is own paths s o).0 g)),
    )

    same_by : (left right : List Path) → IsComposition p left right segment → given_by_both own left right s ≡ outcomes own paths s → length (outcomes own paths s) ≤ 1 → outcomes own segment s ≡ outcomes own paths s
    same_by left right h same few = h.gives s (omega (arith, ap length same, few)) ∙ same

    pub before_agrees : IsComposition p (all ∷ []) paths segment → AgreeAt own segment paths s
    before_agrees h = agrees_by (all ∷ []) paths h (first_same paths s v)

    pub before_same : IsComposition p (all ∷ []) paths segment → length (outcomes own paths s) ≤ 1 → outcomes own segment s ≡ outcomes own paths s
    before_same h few = same_by (all ∷ []) paths h (first_same paths s v) few

    pub after_agrees_too : SegmentFits p paths → IsComposition p paths (all ∷ []) segment → AgreeAt own segment paths s
    after_agrees_too fits h = agrees_by paths (all ∷ []) h (last_same paths s fits v)

    pub after_same : SegmentFits p paths → IsComposition p paths (all ∷ []) segment → length (outcomes own paths s) ≤ 1 → outcomes own segment s ≡ outcomes own paths s
    after_same fits h few = same_by paths (all ∷ []) h (last_same paths s fits v) few

  whole_ends : (when : List Part) (end : PathEnd) → IsWholeEnd p when end → EndsAmong [] end
  whole_ends when (Next forms) h = tt
  whole_ends when (Ended fault) h = absurd h

  all_one : (P : Path → Type 0) → P all → All P (all ∷ [])
  all_one P h = All-cons P all [] h (All-nil P)

  pub none_stand : PathFits p all → IsWholePath p all → StandsFor p [] (all ∷ [])
  none_stand fits whole = record {
    fits = all_one (PathFits p) fits;
    faults = all_one (λ (path : Path). EndsAmong [] path.end) (whole_ends all.when all.end whole);
    exact = λ s v. (only_outcome own (all ∷ []) s (Going s)).0 (alone s v);
  }
