-- What paths give of which two are joined.
use Rattle.std.proofs.Common.{get_or, ◌≡◌, ◌<◌, ◌≤◌, ◌+◌, ◌-◌, ℕ, zero, suc, Bool, true, false, List, [], ◌∷◌, ◌++◌, Some, ◌⊎◌, inl, inr, length, take, drop, refl, sym, ap, ◌∙◌, subst, arith, append_assoc, append-nil, length-append, below_more}
use Rattle.std.proofs.lemmas.Bool.{cases_lt}
use Rattle.std.proofs.lemmas.List.Edits.{length-insert, length-remove, remove-append_left}
use Rattle.std.proofs.lemmas.List.{take_all}
use Rattle.std.proofs.lemmas.List.Elements.{All-append, All-take, Contains-append_cases, Contains-append_left, Contains-append_right}
use Rattle.std.proofs.lemmas.List.Quantifiers.{all_pairs_push, all_pairs_remove}
use Rattle.std.proofs.lemmas.Option.{slice_get-get_or, get_or_from_slice_get}
use Rattle.std.specs.Prelude.{slice_get, if◌then◌else◌}
use Rattle.std.specs.List.{All, Any, Contains, insert, remove}
use Rattle.sym_base.specs.declared.values.state.State.{State}
use Rattle.sym_base.specs.declared.values.state.Outcome.{Outcome}
use Rattle.sym_base.specs.Tests.{Truth}
use Rattle.sym_path.specs.declared.path.Path.{Path}
use Rattle.sym_path.specs.declared.part.Part.{Part}
use Rattle.sym_path.specs.declared.path.PathEnd.{PathEnd}
use Rattle.sym_path.specs.declared.path.PathEnd.TheVariants.{Next, Ended}
use Rattle.sym_path.specs.Admitting.{admits}
use Rattle.sym_path.specs.Fitting.{PathFits}
use Rattle.sym_path.specs.Giving.{AgreeAt, end_at, given, outcomes}
use Rattle.sym_path.specs.Joining.{Joinable, IsSettled}
use Rattle.sym_path.specs.Joins.{IsJoin}
use Rattle.sym_path.specs.Changing.{GoesOn}
use Rattle.sym_path.specs.Settling.{AreEndedInTurn, CannotJoin, EndsBefore, IsPairJoined, GivesSame, IsReduced, IsSettling}
use Rattle.sym_path.proofs.AmongOutcomes.{By, among_gives, by_given, given_by, gives_among}
use Rattle.sym_path.proofs.Decided.{admits_decided}
use Rattle.sym_path.proofs.Lists.{all_from, all_at, take_get, get_within}

-- ---- lists

front : {A : Type 0} (xs ys : List A) (n : ℕ) → length xs ≡ n → take n (xs ++ ys) ≡ xs
front [] [] zero e = refl
front [] (y ∷ ys) zero e = refl
front [] ys (suc n) e = cc
front (x ∷ xs) ys zero e = cc
front (x ∷ xs) ys (suc n) e = ap (λ zs. x ∷ zs) (front xs ys n (omega arith))

length_front : {A : Type 0} (xs : List A) (n : ℕ) → n ≤ length xs → length (take n xs) ≡ n
length_front [] zero h = refl
length_front [] (suc n) h = omega arith
length_front (x ∷ xs) zero h = refl
length_front (x ∷ xs) (suc n) h = ap suc (length_front xs n (omega arith))

-- A list about one of its items.
around : {A : Type 0} (xs : List A) (i : ℕ) (x : A) → slice_get xs i ≡ Some x → xs ≡ take i xs ++ x ∷ drop (suc i) xs
around [] i x e = absurd (cc)
around (y ∷ xs) zero x e = let same : y ≡ x = cc in ap (λ z. z ∷ xs) same
around (y ∷ xs) (suc i) x e = ap (λ zs. y ∷ zs) (around xs i x e)

parted : {A : Type 0} (xs : List A) (i : ℕ) → xs ≡ take i xs ++ drop i xs
parted [] zero = refl
parted [] (suc i) = refl
parted (x ∷ xs) zero = refl
parted (x ∷ xs) (suc i) = ap (λ zs. x ∷ zs) (parted xs i)

get_front : {A : Type 0} (xs ys : List A) (i : ℕ) → i < length xs → slice_get (xs ++ ys) i ≡ slice_get xs i
get_front [] ys i h = absurd (omega arith)
get_front (x ∷ xs) ys zero h = refl
get_front (x ∷ xs) ys (suc i) h = get_front xs ys i (omega arith)

get_taken : {A : Type 0} (xs : List A) (n i : ℕ) → i < n → slice_get (take n xs) i ≡ slice_get xs i
get_taken xs zero i h = absurd (omega arith)
get_taken [] (suc n) i h = refl
get_taken (x ∷ xs) (suc n) zero h = refl
get_taken (x ∷ xs) (suc n) (suc i) h = get_taken xs n i (omega arith)

-- An item before a removed one.
get_before : {A : Type 0} (xs : List A) (n i : ℕ) → i < n → n < length xs → slice_get (remove xs n) i ≡ slice_get xs i
get_before xs n i h l = get_front (take n xs) (drop (suc n) xs) i (omega (arith, length_front xs n (omega arith))) ∙ get_taken xs n i h

-- The first items once two are taken out and one is put in.
front_after : {A : Type 0} (xs : List A) (f n : ℕ) (x : A) → f < n → n < length xs → take (n - 1) (insert (remove (remove xs n) f) (n - 1) x) ≡ remove (take n xs) f
front_after xs f n x h l =
    let first : length (take n xs) ≡ n = length_front xs n (omega arith) in
    let kept : remove (remove xs n) f ≡ remove (take n xs) f ++ drop (suc n) xs = remove-append_left (take n xs) (drop (suc n) xs) f (omega arith) in
    let shorter : length (remove (take n xs) f) ≡ n - 1 = omega (arith, length-remove (take n xs) f (omega arith)) in
    let both : take (n - 1) (remove (remove xs n) f) ≡ remove (take n xs) f = ap (take (n - 1)) kept ∙ front (remove (take n xs) f) (drop (suc n) xs) (n - 1) shorter in
    let enough : length (take (n - 1) (remove (remove xs n) f)) ≡ n - 1 = ap length both ∙ shorter in
    front (take (n - 1) (remove (remove xs n) f)) (x ∷ drop (n - 1) (remove (remove xs n) f)) (n - 1) enough ∙ both

-- ---- all items

module _ {A : Type 0} (P : A → Type 0) where
  all_cons : (x : A) (xs : List A) → P x → All P xs → All P (x ∷ xs)
  all_cons x xs p h = all_from P (x ∷ xs) each
    where
      each : (i : ℕ) (y : A) → slice_get (x ∷ xs) i ≡ Some y → P y
      each zero y e = let same : x ≡ y = cc in subst P same p
      each (suc i) y e = all_at P xs i y h e

  all_drop : (xs : List A) (n : ℕ) → All P xs → All P (drop n xs)
  all_drop xs zero h = h
  all_drop [] (suc n) h = h
  all_drop (x ∷ xs) (suc n) h = all_drop xs n (all_from P xs (λ i y e. all_at P (x ∷ xs) (suc i) y h e))

  pub all_remove : (xs : List A) (n : ℕ) → All P xs → All P (remove xs n)
  all_remove xs n h = All-append P (take n xs) (drop (suc n) xs) (All-take P n xs h) (all_drop xs (suc n) h)

  pub all_insert : (xs : List A) (n : ℕ) (x : A) → All P xs → P x → All P (insert xs n x)
  all_insert xs n x h p = All-append P (take n xs) (x ∷ drop n xs) (All-take P n xs h) (all_cons x (drop n xs) p (all_drop xs n h))

-- ---- outcomes

module _ (truth : Truth) (s : State) where
  gives_append : (xs ys : List Path) → outcomes truth (xs ++ ys) s ≡ outcomes truth xs s ++ outcomes truth ys s
  gives_append [] ys = refl
  gives_append (x ∷ xs) ys = ap (λ o. given truth x s ++ o) (gives_append xs ys) ∙ sym (append_assoc (given truth x s) (outcomes truth xs s) (outcomes truth ys s))

  -- Two lists of which at most one has an item.
  swapped : (a b : List Outcome) → length (a ++ b) ≤ 1 → b ++ a ≡ a ++ b
  swapped [] b h = append-nil b
  swapped (x ∷ a) [] h = sym (append-nil (x ∷ a))
  swapped (x ∷ a) (y ∷ b) h = absurd (omega (arith, length-append a (y ∷ b)))

  to_front : (x g y : List Outcome) → length (x ++ (g ++ y)) ≤ 1 → g ++ (x ++ y) ≡ x ++ (g ++ y)
  to_front x g y h =
      let few : length (x ++ g) ≤ 1 = omega (arith, length-append x (g ++ y), length-append g y, length-append x g) in
      sym (append_assoc g x y) ∙ ap (λ o. o ++ y) (swapped x g few) ∙ append_assoc x g y

  taken_out : (xs : List Path) (i : ℕ) (p : Path) → slice_get xs i ≡ Some p → length (outcomes truth xs s) ≤ 1 → given truth p s ++ outcomes truth (remove xs i) s ≡ outcomes truth xs s
  taken_out xs i p e h =
      let first : List Outcome = outcomes truth (take i xs) s in
      let rest : List Outcome = outcomes truth (drop (suc i) xs) s in
      let all : outcomes truth xs s ≡ first ++ (given truth p s ++ rest) = ap (λ ps. outcomes truth ps s) (around xs i p e) ∙ gives_append (take i xs) (p ∷ drop (suc i) xs) in
      let few : length (first ++ (given truth p s ++ rest)) ≤ 1 = subst (λ (o : List Outcome). length o ≤ 1) all h in
      ap (λ o. given truth p s ++ o) (gives_append (take i xs) (drop (suc i) xs)) ∙ to_front first (given truth p s) rest few ∙ sym all

  put_in : (xs : List Path) (i : ℕ) (p : Path) → length (given truth p s ++ outcomes truth xs s) ≤ 1 → outcomes truth (insert xs i p) s ≡ given truth p s ++ outcomes truth xs s
  put_in xs i p h =
      let first : List Outcome = outcomes truth (take i xs) s in
      let rest : List Outcome = outcomes truth (drop i xs) s in
      let all : outcomes truth xs s ≡ first ++ rest = ap (λ ps. outcomes truth ps s) (parted xs i) ∙ gives_append (take i xs) (drop i xs) in
      let whole : length (given truth p s ++ (first ++ rest)) ≤ 1 = subst (λ (o : List Outcome). length (given truth p s ++ o) ≤ 1) all h in
      let few : length (first ++ (given truth p s ++ rest)) ≤ 1 = omega (arith, length-append first (given truth p s ++ rest), length-append (given truth p s) rest, length-append (given truth p s) (first ++ rest), length-append first rest) in
      gives_append (take i xs) (p ∷ drop i xs) ∙ sym (to_front first (given truth p s) rest few) ∙ ap (λ o. given truth p s ++ o) (sym all)

  -- What a joined path gives.
  joined_gives : (a b c : Bool) (x y z : Outcome) → (c ≡ true → (a ≡ true) ⊎ (b ≡ true)) → (a ≡ true → c ≡ true) → (b ≡ true → c ≡ true) → (a ≡ true → z ≡ x) → (b ≡ true → z ≡ y) → length ((if b then y ∷ [] else []) ++ (if a then x ∷ [] else [])) ≤ 1 → (if c then z ∷ [] else []) ≡ (if b then y ∷ [] else []) ++ (if a then x ∷ [] else [])
  joined_gives true true c x y z from one two first second h = absurd (omega arith)
  joined_gives true false true x y z from one two first second h = ap (λ o. o ∷ []) (first refl)
  joined_gives true false false x y z from one two first second h = absurd (let e = one refl in cc)
  joined_gives false true true x y z from one two first second h = ap (λ o. o ∷ []) (second refl)
  joined_gives false true false x y z from one two first second h = absurd (let e = two refl in cc)
  joined_gives false false true x y z from one two first second h = absurd (elim (from refl) [ inl e ↦ cc | inr e ↦ cc ])
  joined_gives false false false x y z from one two first second h = refl

  join_gives : (p q j : Path) → IsJoin p q j → length (given truth q s ++ given truth p s) ≤ 1 → given truth j s ≡ given truth q s ++ given truth p s
  join_gives p q j h few =
      joined_gives (admits truth p.when s.cells) (admits truth q.when s.cells) (admits truth j.when s.cells) (end_at p.end s) (end_at q.end s) (end_at j.end s)
      (λ e. elim ((h.admits truth s).0 ((admits_decided truth j.when s).0 e)) [ inl a ↦ inl ((admits_decided truth p.when s).1 a) | inr b ↦ inr ((admits_decided truth q.when s).1 b) ])
      (λ e. (admits_decided truth j.when s).1 ((h.admits truth s).1 (inl ((admits_decided truth p.when s).0 e))))
      (λ e. (admits_decided truth j.when s).1 ((h.admits truth s).1 (inr ((admits_decided truth q.when s).0 e))))
      (λ e. h.first truth s ((admits_decided truth p.when s).0 e))
      (λ e. h.second truth s ((admits_decided truth q.when s).0 e))
      few

-- An outcome that is among those given.
module _ (truth : Truth) (s : State) (o : Outcome) where
  abbrev Among : List Path → Type 0
  Among paths = Contains (outcomes truth paths s) o

  among_cut : (xs ys : List Path) → Among (xs ++ ys) → Among xs ⊎ Among ys
  among_cut xs ys h = Contains-append_cases (outcomes truth xs s) (outcomes truth ys s) o (subst (λ (os : List Outcome). Contains os o) (gives_append truth s xs ys) h)

  among_first : (xs ys : List Path) → Among xs → Among (xs ++ ys)
  among_first xs ys h = subst (λ (os : List Outcome). Contains os o) (sym (gives_append truth s xs ys)) (Contains-append_left (outcomes truth xs s) (outcomes truth ys s) o h)

  among_rest : (xs ys : List Path) → Among ys → Among (xs ++ ys)
  among_rest xs ys h = subst (λ (os : List Outcome). Contains os o) (sym (gives_append truth s xs ys)) (Contains-append_right (outcomes truth xs s) (outcomes truth ys s) o h)

  among_one : (p : Path) (ps : List Path) → Among (p ∷ ps) → By truth s o p ⊎ Among ps
  among_one p ps h = elim (Contains-append_cases (given truth p s) (outcomes truth ps s) o h) [ inl a ↦ inl (given_by truth s o p a) | inr b ↦ inr b ]

  among_cons : (p : Path) (ps : List Path) → By truth s o p ⊎ Among ps → Among (p ∷ ps)
  among_cons p ps (inl a) = Contains-append_left (given truth p s) (outcomes truth ps s) o (by_given truth s o p a)
  among_cons p ps (inr b) = Contains-append_right (given truth p s) (outcomes truth ps s) o b

  -- A path about which a list is cut is one of its paths.
  cut_about : (xs ys : List Path) (p : Path) → Among (xs ++ p ∷ ys) → By truth s o p ⊎ Among (xs ++ ys)
  cut_about xs ys p h = elim (among_cut xs (p ∷ ys) h) [
    | inl a ↦ inr (among_first xs ys a)
    | inr b ↦ elim (among_one p ys b) [ inl c ↦ inl c | inr d ↦ inr (among_rest xs ys d) ]
  ]

  put_about : (xs ys : List Path) (p : Path) → By truth s o p ⊎ Among (xs ++ ys) → Among (xs ++ p ∷ ys)
  put_about xs ys p (inl a) = among_rest xs (p ∷ ys) (among_cons p ys (inl a))
  put_about xs ys p (inr b) = elim (among_cut xs ys b) [
    | inl c ↦ among_first xs (p ∷ ys) c
    | inr d ↦ among_rest xs (p ∷ ys) (among_cons p ys (inr d))
  ]

  among_out : (xs : List Path) (i : ℕ) (p : Path) → slice_get xs i ≡ Some p → Among xs → By truth s o p ⊎ Among (remove xs i)
  among_out xs i p e h = cut_about (take i xs) (drop (suc i) xs) p (subst Among (around xs i p e) h)

  among_back : (xs : List Path) (i : ℕ) (p : Path) → slice_get xs i ≡ Some p → By truth s o p ⊎ Among (remove xs i) → Among xs
  among_back xs i p e h = subst Among (sym (around xs i p e)) (put_about (take i xs) (drop (suc i) xs) p h)

  among_in : (xs : List Path) (i : ℕ) (p : Path) → By truth s o p ⊎ Among xs → Among (insert xs i p)
  among_in xs i p (inl a) = put_about (take i xs) (drop i xs) p (inl a)
  among_in xs i p (inr b) = put_about (take i xs) (drop i xs) p (inr (subst Among (parted xs i) b))

  among_inserted : (xs : List Path) (i : ℕ) (p : Path) → Among (insert xs i p) → By truth s o p ⊎ Among xs
  among_inserted xs i p h = elim (cut_about (take i xs) (drop i xs) p h) [
    | inl a ↦ inl a
    | inr b ↦ inr (subst Among (sym (parted xs i)) b)
  ]

  -- A joined path gives what one of the two gives.
  by_joined : (p q j : Path) → IsJoin p q j → By truth s o j → By truth s o p ⊎ By truth s o q
  by_joined p q j h b = elim ((h.admits truth s).0 b.0) [
    | inl a ↦ inl (a, sym (h.first truth s a) ∙ b.1)
    | inr a ↦ inr (a, sym (h.second truth s a) ∙ b.1)
  ]

  joined_first : (p q j : Path) → IsJoin p q j → By truth s o p → By truth s o j
  joined_first p q j h b = ((h.admits truth s).1 (inl b.0), h.first truth s b.0 ∙ b.1)

  joined_second : (p q j : Path) → IsJoin p q j → By truth s o q → By truth s o j
  joined_second p q j h b = ((h.admits truth s).1 (inr b.0), h.second truth s b.0 ∙ b.1)

module _ (old new : List Path) (f n : ℕ) (earlier : f < n) (within : n < length old) (j : IsPairJoined old f n new) where
  abbrev without_one : List Path
  without_one = remove old n

  abbrev without_both : List Path
  without_both = remove without_one f

  new_is : new ≡ insert without_both (n - 1) j.joined
  new_is = j.is

  first_there : slice_get without_one f ≡ Some j.p
  first_there = get_before old n f (omega arith) within ∙ j.at_first

  pub pair_gives : GivesSame old new
  pair_gives truth s few =
      let gp : List Outcome = given truth j.p s in
      let gq : List Outcome = given truth j.q s in
      let left : List Outcome = outcomes truth without_both s in
      let one : gq ++ outcomes truth without_one s ≡ outcomes truth old s = taken_out truth s old n j.q j.at_second few in
      let few_one : length (outcomes truth without_one s) ≤ 1 = omega (arith, length-append gq (outcomes truth without_one s), ap length one) in
      let two : gp ++ left ≡ outcomes truth without_one s = taken_out truth s without_one f j.p first_there few_one in
      let all : (gq ++ gp) ++ left ≡ outcomes truth old s = append_assoc gq gp left ∙ ap (λ o. gq ++ o) two ∙ one in
      let few_two : length (gq ++ gp) ≤ 1 = omega (arith, length-append (gq ++ gp) left, ap length all) in
      let same : given truth j.joined s ≡ gq ++ gp = join_gives truth s j.p j.q j.joined j.join few_two in
      let whole : given truth j.joined s ++ left ≡ outcomes truth old s = ap (λ o. o ++ left) same ∙ all in
      ap (λ ps. outcomes truth ps s) new_is ∙ put_in truth s without_both (n - 1) j.joined (omega (arith, ap length whole)) ∙ whole

  module _ (truth : Truth) (s : State) (o : Outcome) where
    pair_kept : Among truth s o old → Among truth s o new
    pair_kept h = subst (Among truth s o) (sym new_is) (among_in truth s o without_both (n - 1) j.joined (elim (among_out truth s o old n j.q j.at_second h) [
      | inl b ↦ inl (joined_second truth s o j.p j.q j.joined j.join b)
      | inr k ↦ elim (among_out truth s o without_one f j.p first_there k) [ inl b ↦ inl (joined_first truth s o j.p j.q j.joined j.join b) | inr rest ↦ inr rest ]
    ]))

    back_to_one : By truth s o j.p ⊎ Among truth s o without_both → Among truth s o without_one
    back_to_one h = among_back truth s o without_one f j.p first_there h

    pair_old : Among truth s o new → Among truth s o old
    pair_old h = elim (among_inserted truth s o without_both (n - 1) j.joined (subst (Among truth s o) new_is h)) [
      | inl b ↦ elim (by_joined truth s o j.p j.q j.joined j.join b) [
        | inl first ↦ among_back truth s o old n j.q j.at_second (inr (back_to_one (inl first)))
        | inr second ↦ among_back truth s o old n j.q j.at_second (inl second)
      ]
      | inr rest ↦ among_back truth s o old n j.q j.at_second (inr (back_to_one (inr rest)))
    ]

  pub pair_agrees : (truth : Truth) (s : State) → AgreeAt truth new old s
  pair_agrees truth s = λ o. (
    λ h. among_gives truth s o old (pair_old truth s o (gives_among truth s o new h)),
    λ h. among_gives truth s o new (pair_kept truth s o (gives_among truth s o old h)),
  )

  -- What holds of all paths before, and of what two of them become, holds of all after.
  all_after : (P : Path → Type 0) → ((p q joined : Path) → IsJoin p q joined → P p → P q → P joined) → All P old → All P new
  all_after P step all =
      subst (λ (ps : List Path). All P ps) (sym new_is)
      (all_insert P without_both (n - 1) j.joined (all_remove P without_one f (all_remove P old n all))
      (step j.p j.q j.joined j.join (all_at P old f j.p all j.at_first) (all_at P old n j.q all j.at_second)))

  pub pair_length : length new + 1 ≡ length old
  pair_length =
      let a = length-remove old n within in
      let b = length-remove without_one f (omega (arith, a)) in
      omega (arith, ap length new_is, length-insert without_both (n - 1) j.joined (omega (arith, a, b)), a, b)

  pub pair_settled : IsSettled (take n old) → IsSettled (take (n - 1) new)
  pair_settled h =
      let first : take (n - 1) new ≡ remove (take n old) f = ap (take (n - 1)) new_is ∙ front_after old f n j.joined earlier within in
      let long : length (take n old) ≡ n = length_front old n (omega arith) in
      subst (λ (ps : List Path). IsSettled ps) (sym first) (all_pairs_remove (λ p q. Joinable p q → ⊥) (take n old) f (omega arith) h)

  pub pair_reduced : (start : List Path) → IsReduced start old → IsReduced start new
  pair_reduced start h = record {
    agree = λ truth s o. (λ g. (h.agree truth s o).0 ((pair_agrees truth s o).0 g), λ g. (pair_agrees truth s o).1 ((h.agree truth s o).1 g));
    same = λ truth s few.
        let before : outcomes truth old s ≡ outcomes truth start s = h.same truth s few in
        pair_gives truth s (omega (arith, ap length before)) ∙ before;
    fits = λ plan a. all_after (PathFits plan) (λ p q joined i x y. i.fits plan x y) (h.fits plan a);
    ends = all_after (λ path. Any (λ q. q.end ≡ path.end) start) ends_so h.ends;
    few = let a = h.few in omega (arith, pair_length);
  }
    where
      ends_so : (p q joined : Path) → IsJoin p q joined → Any (λ (x : Path). x.end ≡ p.end) start → Any (λ (x : Path). x.end ≡ q.end) start → Any (λ (x : Path). x.end ≡ joined.end) start
      ends_so p q joined i a b = elim i.end [
        | inl e ↦ subst (λ (z : PathEnd). Any (λ (x : Path). x.end ≡ z) start) (sym e) a
        | inr e ↦ subst (λ (z : PathEnd). Any (λ (x : Path). x.end ≡ z) start) (sym e) b
      ]

  -- The paths before the first one of the two stay in their places.
  stay_before : (i : ℕ) → i < f → slice_get new i ≡ slice_get old i
  stay_before i h =
      let a = length-remove old n within in
      let b = length-remove without_one f (omega (arith, a)) in
      let long : length (take (n - 1) without_both) ≡ n - 1 = length_front without_both (n - 1) (omega (arith, a, b)) in
      ap (λ ps. slice_get ps i) new_is
      ∙ get_front (take (n - 1) without_both) (j.joined ∷ drop (n - 1) without_both) i (omega arith)
      ∙ get_taken without_both (n - 1) i (omega arith)
      ∙ get_before without_one f i h (omega (arith, a))
      ∙ get_before old n i (omega arith) within

  pub in_turn_after : (k m : ℕ) → m ≤ f → m ≤ k → AreEndedInTurn old k → AreEndedInTurn new m
  in_turn_after k m first fewer h = record {
    ended = λ i p l e. h.ended i p (omega arith) (sym (stay_before i (omega arith)) ∙ e);
    in_turn = λ i d p q l g e r. h.in_turn i d p q l (omega arith) (sym (stay_before i (omega arith)) ∙ e) (sym (stay_before d (omega arith)) ∙ r);
  }

-- ---- paths that have ended in turn

turn_apart : (v w : List Part) (a b : PathEnd) → EndsBefore (record { when = v; end = a }) (record { when = w; end = b }) → Joinable (record { when = v; end = a }) (record { when = w; end = b }) → ⊥
turn_apart v w (Next f) (Next g) h j = h
turn_apart v w (Next f) (Ended b) h j = h
turn_apart v w (Ended a) (Next g) h j = h
turn_apart v w (Ended a) (Ended b) h j = let same : a ≡ b = j.ends in absurd (omega (arith, ap (λ x. x.no) same))

turn_follows : (v w x : List Part) (a b c : PathEnd) → EndsBefore (record { when = v; end = a }) (record { when = w; end = b }) → EndsBefore (record { when = w; end = b }) (record { when = x; end = c }) → EndsBefore (record { when = v; end = a }) (record { when = x; end = c })
turn_follows v w x (Ended a) (Ended b) (Ended c) h j = omega arith
turn_follows v w x (Ended a) (Ended b) (Next g) h j = absurd j
turn_follows v w x (Ended a) (Next g) c h j = absurd h
turn_follows v w x (Next f) (Next g) c h j = absurd h
turn_follows v w x (Next f) (Ended b) c h j = absurd h

later_ended : (v w : List Part) (a b : PathEnd) → EndsBefore (record { when = v; end = a }) (record { when = w; end = b }) → GoesOn b → ⊥
later_ended v w (Ended a) (Ended b) h g = g
later_ended v w (Ended a) (Next fs) h g = h
later_ended v w (Next fs) (Next gs) h g = h
later_ended v w (Next fs) (Ended b) h g = h

pub in_turn_settled : (paths : List Path) (n : ℕ) → n ≤ length paths → AreEndedInTurn paths n → IsSettled (take n paths)
in_turn_settled paths n within h i j d before last =
    let long : length (take n paths) ≡ n = length_front paths n within in
    let p : Path = get_or (take n paths) i d in
    let q : Path = get_or (take n paths) j d in
    let at_i : slice_get paths i ≡ Some p = sym (get_taken paths n i (omega arith)) ∙ slice_get-get_or (take n paths) i d (omega arith) in
    let at_j : slice_get paths j ≡ Some q = sym (get_taken paths n j (omega arith)) ∙ slice_get-get_or (take n paths) j d last in
    turn_apart p.when q.when p.end q.end (h.in_turn i j p q before (omega arith) at_i at_j)

-- The first path alone, which has ended.
pub one_in_turn : (paths : List Path) (p : Path) → slice_get paths 0 ≡ Some p → (GoesOn p.end → ⊥) → AreEndedInTurn paths 1
one_in_turn paths p at apart = record {
  ended = λ i q l e.
      let first : i ≡ 0 = omega arith in
      let there : slice_get paths 0 ≡ Some q = ap (λ (k : ℕ). slice_get paths k) (sym first) ∙ e in
      let same : p ≡ q = cc in
      let P : Path → Type 0 = λ x. GoesOn x.end → ⊥ in subst P same apart;
  in_turn = λ i k q r l g e f. absurd (omega arith);
}

-- One more, which has ended at a later record than the last one.
pub one_more_in_turn : (paths : List Path) (n : ℕ) (p q : Path) → 1 ≤ n → slice_get paths (n - 1) ≡ Some p → slice_get paths n ≡ Some q → EndsBefore p q → AreEndedInTurn paths n → AreEndedInTurn paths (n + 1)
one_more_in_turn paths n p q some at_p at_q later h = record {
  ended = λ i x l e. elim (cases_lt i n) [
    | inl below ↦ h.ended i x below e
    | inr past ↦
        let last : i ≡ n = omega arith in
        let same : q ≡ x = let there : slice_get paths n ≡ Some x = ap (λ (k : ℕ). slice_get paths k) (sym last) ∙ e in cc in
        let P : Path → Type 0 = λ z. GoesOn z.end → ⊥ in subst P same (later_ended p.when q.when p.end q.end later)
  ];
  in_turn = λ i k x y l g e f. elim (cases_lt k n) [
    | inl below ↦ h.in_turn i k x y l below e f
    | inr past ↦
        let last : k ≡ n = omega arith in
        let same : q ≡ y = let there : slice_get paths n ≡ Some y = ap (λ (d : ℕ). slice_get paths d) (sym last) ∙ f in cc in
        let P : Path → Type 0 = λ z. EndsBefore x z in subst P same (before_last i x (omega arith) e)
  ];
}
  where
    before_last : (i : ℕ) (x : Path) → i < n → slice_get paths i ≡ Some x → EndsBefore x q
    before_last i x l e = elim (cases_lt i (n - 1)) [
      | inl below ↦ turn_follows x.when p.when q.when x.end p.end q.end (h.in_turn i (n - 1) x p below (omega arith) e at_p) later
      | inr past ↦
          let last : i ≡ n - 1 = omega arith in
          let same : p ≡ x = let there : slice_get paths (n - 1) ≡ Some x = ap (λ (d : ℕ). slice_get paths d) (sym last) ∙ e in cc in
          let P : Path → Type 0 = λ z. EndsBefore z q in subst P same later
    ]

-- ---- the loops

-- Whether two paths can be joined decides it at their indices.
pub cannot_here : (paths : List Path) (i k : ℕ) (a b : Path) → a ≡ get_or paths i a → b ≡ get_or paths k b → (Joinable a b → ⊥) → CannotJoin paths i k
cannot_here paths i k a b e f apart = λ p q at_i at_k joinable.
    let first : a ≡ p = e ∙ get_or_from_slice_get paths i p a at_i in
    let second : b ≡ q = f ∙ get_or_from_slice_get paths k q b at_k in
    apart (subst (λ (x : Path). Joinable x b) (sym first) (subst (λ (y : Path). Joinable p y) (sym second) joinable))

pub more_apart : (paths : List Path) (i k : ℕ) → ((d : ℕ) → d < i → CannotJoin paths d k) → CannotJoin paths i k → (d : ℕ) → d < i + 1 → CannotJoin paths d k
more_apart paths i k before here = below_more (λ d. CannotJoin paths d k) i before here

pub one_more_settled : (paths items : List Path) (n : ℕ) → items ≡ paths → n < length paths → ((i : ℕ) → i < n → CannotJoin items i n) → IsSettled (take n paths) → IsSettled (take (n + 1) paths)
one_more_settled paths items n same within apart h =
    let (x, at) = get_within paths n within in
    subst (λ (ps : List Path). IsSettled ps) (sym (take_get paths n x at))
    (all_pairs_push (λ p q. Joinable p q → ⊥) (take n paths) x h (each x at))
  where
    each : (x : Path) → slice_get paths n ≡ Some x → (k : ℕ) (d : Path) → k < length (take n paths) → Joinable (get_or (take n paths) k d) x → ⊥
    each x at k d l =
        let long : length (take n paths) ≡ n = length_front paths n (omega arith) in
        let below : k < n = omega arith in
        let there : slice_get paths k ≡ Some (get_or (take n paths) k d) = sym (get_taken paths n k below) ∙ slice_get-get_or (take n paths) k d l in
        apart k below (get_or (take n paths) k d) x (ap (λ ps. slice_get ps k) same ∙ there) (ap (λ ps. slice_get ps n) same ∙ at)

pub reduced_self : (paths : List Path) → IsReduced paths paths
reduced_self paths = record {
  agree = λ truth s o. (λ g. g, λ g. g);
  same = λ truth s few. refl;
  fits = λ plan a. a;
  ends = λ k d l. (k, get_or paths k d, l, get_or_from_slice_get paths k (get_or paths k d) (get_or paths k d) (slice_get-get_or paths k d l), refl);
  few = omega arith;
}

pub settling_of : (start paths result : List Path) (n : ℕ) → result ≡ paths → length paths ≤ n → IsSettled (take n paths) → IsReduced start paths → IsSettling start result
settling_of start paths result n is past h reduced = subst (λ (ps : List Path). IsSettling start ps) (sym is) (record {
  settled = subst (λ (ps : List Path). IsSettled ps) (take_all n paths past) h;
  reduced = reduced;
})

-- What the code reads at an index that is within the list.
pub read_at : (paths : List Path) (i : ℕ) (p : Path) → p ≡ get_or paths i p → i < length paths → slice_get paths i ≡ Some p
read_at paths i p e h = slice_get-get_or paths i p h ∙ ap (λ (x : Path). Some x) (sym e)
