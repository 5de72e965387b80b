-- Numbers of pairs that are counted no further than to a limit.
use Rattle.std.proofs.Common.{◌≡◌, ◌≤◌, ◌<◌, ◌+◌, ◌-◌, ◌↔◌, ℕ, Bool, true, false, cond, List, [], ◌∷◌, ◌++◌, map, drop, take, refl, sym, subst, arith}
use Rattle.std.proofs.lemmas.Grind.{flat_map-append}
use Rattle.std.specs.List.{AllZip, count_by}
use Rattle.std.specs.Prelude.{IsTrue, MatchOption, Option, Some, None, slice_get}
use Rattle.sym_base.specs.Tests.{Truth}
use Rattle.sym_path.specs.declared.path.Path.{Path}
use Rattle.sym_path.specs.Pairs.{AreFollowers, ArePairs, IsAnswer, each_with, has_ended, is_ended}
use Rattle.sym_path.specs.Possible.{IsPossiblePair}
use Rattle.sym_check.specs.Meaning.Conditions.{test_truth}
use Rattle.sym_check.specs.Plan.ScriptPlans.{ScriptPlan}
use Rattle.sym_path.specs.declared.within.Composition.{Composition}
use Rattle.sym_path.specs.declared.within.Composition.TheVariants.{One, Apart}
use Rattle.sym_path.specs.Within.{HasFollowers, HaveFewPairs, HaveMorePairs, HavePairs, IsComposedWithin}
use Rattle.sym_path.proofs.Lists.{take_and_drop, take_get, zip_weak}
use Rattle.sym_path.proofs.PairCounts.{count_both, count_first, going_pairs, none_found, none_of, pairs_same, zip_join}

abbrev yes : List Bool → ℕ
yes marks = count_by (λ (mark : Bool). mark) marks

abbrev IsFound : Truth → (Path × Path) → Bool → Type 0
IsFound truth pair mark = IsTrue mark → IsPossiblePair truth pair.0 pair.1

abbrev IsNext : Truth → Path → Path → Bool → Type 0
IsNext truth path next mark = IsTrue mark → IsPossiblePair truth path next

-- ---- the others after one path

-- More others don't make fewer.
followers_padded : (truth : Truth) (path : Path) (first rest : List Path) (n : ℕ) → AreFollowers truth path first n → HasFollowers truth path (first ++ rest) n
followers_padded truth path first rest n a = record {
  found = a.answers ++ none_of rest;
  possible = zip_join (IsNext truth path) first rest a.answers (none_of rest)
      (zip_weak (λ (q : Path) (b : Bool). IsAnswer truth (path, q) b) (IsNext truth path) first a.answers (λ q b h. h.0) a.decided)
      (none_found (λ (q : Path). IsPossiblePair truth path q) rest);
  many =
      let both = count_both (λ (mark : Bool). mark) a.answers (none_of rest) in
      let sum = a.sum in
      omega (arith, both);
}

pub followers_found : (truth : Truth) (path : Path) (others : List Path) (i n : ℕ) → AreFollowers truth path (take i others) n → HasFollowers truth path others n
followers_found truth path others i n a =
    subst (λ (qs : List Path). HasFollowers truth path qs n) (take_and_drop i others) (followers_padded truth path (take i others) (drop i others) n a)

found_beside : (truth : Truth) (path : Path) (others : List Path) (marks : List Bool) → AllZip (IsNext truth path) others marks → AllZip (IsFound truth) (map (λ (q : Path). (path, q)) others ++ []) marks
found_beside truth path [] [] h = tt
found_beside truth path [] (x ∷ xs) h = absurd h
found_beside truth path (q ∷ others) [] h = absurd h
found_beside truth path (q ∷ others) (x ∷ xs) h = (h.0, found_beside truth path others xs h.1)

pub going_found : (truth : Truth) (path : Path) (others : List Path) (n : ℕ) → HasFollowers truth path others n → HavePairs truth (path ∷ []) others n
going_found truth path others n a = record {
  found = a.found;
  possible = found_beside truth path others a.found a.possible;
  many = let many = a.many in omega arith;
}

-- The pairs of a path that goes on are the others that can come after it.
pub going_within : (truth : Truth) (path : Path) (others : List Path) (most : ℕ) (found : Option ℕ) → is_ended path.end ≡ false → MatchOption found (HasFollowers truth path others (most + 1)) (λ n. AreFollowers truth path others n × (n ≤ most)) → MatchOption found (HavePairs truth (path ∷ []) others (most + 1)) (λ n. ArePairs truth (path ∷ []) others n × (n ≤ most))
going_within truth path others most None goes h = going_found truth path others (most + 1) h
going_within truth path others most (Some n) goes h = (going_pairs truth path others n goes h.0, h.1)

-- ---- pairs

pub are_found : (truth : Truth) (left right : List Path) (n : ℕ) → ArePairs truth left right n → HavePairs truth left right n
are_found truth left right n a = record {
  found = a.answers;
  possible = zip_weak (IsAnswer truth) (IsFound truth) (each_with left right) a.answers (λ pair b h. h.0) a.decided;
  many = let sum = a.sum in omega arith;
}

found_both : (truth : Truth) (first rest right : List Path) (m n : ℕ) → HavePairs truth first right m → HavePairs truth rest right n → HavePairs truth (first ++ rest) right (m + n)
found_both truth first rest right m n a b = record {
  found = a.found ++ b.found;
  possible = subst (λ (pairs : List (Path × Path)). AllZip (IsFound truth) pairs (a.found ++ b.found)) (sym (flat_map-append (λ (p : Path). map (λ (q : Path). (p, q)) right) first rest))
      (zip_join (IsFound truth) (each_with first right) (each_with rest right) a.found b.found a.possible b.possible);
  many =
      let ended = count_both has_ended first rest in
      let possible = count_both (λ (mark : Bool). mark) a.found b.found in
      let x = a.many in
      let y = b.many in
      omega (arith, ended, possible);
}

nothing_found : (truth : Truth) (left right : List Path) → HavePairs truth left right 0
nothing_found truth left right = record {
  found = none_of (each_with left right);
  possible = none_found (λ (pair : Path × Path). IsPossiblePair truth pair.0 pair.1) (each_with left right);
  many = omega arith;
}

-- The pairs of the first paths, and more of the next one than are left up to the limit.
pub more_found : (truth : Truth) (left right : List Path) (i count limit : ℕ) (path : Path) → slice_get left i ≡ Some path → count ≤ limit → ArePairs truth (take i left) right count → HavePairs truth (path ∷ []) right ((limit - count) + 1) → HavePairs truth left right (limit + 1)
more_found truth left right i count limit path at few a b =
    let sum : (count + ((limit - count) + 1)) + 0 ≡ limit + 1 = omega arith in
    let next : HavePairs truth (take (i + 1) left) right (count + ((limit - count) + 1)) =
    subst (λ (ps : List Path). HavePairs truth ps right (count + ((limit - count) + 1))) (sym (take_get left i path at))
    (found_both truth (take i left) (path ∷ []) right count ((limit - count) + 1) (are_found truth (take i left) right count a) b) in
    let whole : HavePairs truth left right ((count + ((limit - count) + 1)) + 0) =
    subst (λ (ps : List Path). HavePairs truth ps right ((count + ((limit - count) + 1)) + 0)) (take_and_drop (i + 1) left)
    (found_both truth (take (i + 1) left) (drop (i + 1) left) right (count + ((limit - count) + 1)) 0 next (nothing_found truth (drop (i + 1) left) right)) in
    subst (λ (n : ℕ). HavePairs truth left right n) sum whole

-- ---- at least

fewer_marks : {A : Type 0} (P : A → Type 0) (xs : List A) (marks answers : List Bool) → AllZip (λ (x : A) (mark : Bool). IsTrue mark → P x) xs marks → AllZip (λ (x : A) (answer : Bool). IsTrue answer ↔ P x) xs answers → yes marks ≤ yes answers
fewer_marks P [] [] [] h k = omega arith
fewer_marks P [] [] (b ∷ answers) h k = absurd k
fewer_marks P [] (a ∷ marks) answers h k = absurd h
fewer_marks P (x ∷ xs) [] answers h k = absurd h
fewer_marks P (x ∷ xs) (a ∷ marks) [] h k = absurd k
fewer_marks P (x ∷ xs) (a ∷ marks) (b ∷ answers) h k =
    let rest = fewer_marks P xs marks answers h.1 k.1 in
    let one = count_first (λ (mark : Bool). mark) a marks in
    let other = count_first (λ (mark : Bool). mark) b answers in
    let here : cond a 1 0 ≤ cond b 1 0 = less a b (λ e. k.0.1 (h.0 e)) in
    omega (arith, rest, one, other, here)
  where
    less : (a b : Bool) → (IsTrue a → IsTrue b) → cond a 1 0 ≤ cond b 1 0
    less true true h = omega arith
    less true false h = let e : false ≡ true = h refl in absurd (cc)
    less false b h = omega arith

-- The number of pairs is at least what was found,
pub found_at_most : (truth : Truth) (left right : List Path) (least n : ℕ) → HavePairs truth left right least → ArePairs truth left right n → least ≤ n
found_at_most truth left right least n a b =
    let marks = fewer_marks (λ (pair : Path × Path). IsPossiblePair truth pair.0 pair.1) (each_with left right) a.found b.answers a.possible b.decided in
    let many = a.many in
    let sum = b.sum in
    omega (arith, marks)

-- and whatever it is at least can be found.
pub at_most_found : (truth : Truth) (left right : List Path) (least n : ℕ) → ArePairs truth left right n → HavePairs truth left right least ↔ (least ≤ n)
at_most_found truth left right least n a = (
  λ h. found_at_most truth left right least n h a,
  λ below. let all = are_found truth left right n a in record {
    found = all.found;
    possible = all.possible;
    many = let many = all.many in omega arith;
  },
)

-- ---- few or more

pub few_number : (truth : Truth) (left right : List Path) (limit n : ℕ) → ArePairs truth left right n → HaveFewPairs truth left right limit ↔ (n ≤ limit)
few_number truth left right limit n a = (
  λ h. let same = pairs_same truth left right n h.pairs a h.are in let few = h.few in omega arith,
  λ few. record { pairs = n; are = a; few = few },
)

pub more_number : (truth : Truth) (left right : List Path) (limit n : ℕ) → ArePairs truth left right n → HaveMorePairs truth left right limit ↔ (limit < n)
more_number truth left right limit n a = (
  λ h. let least = found_at_most truth left right (limit + 1) n h a in omega arith,
  λ above. (at_most_found truth left right (limit + 1) n a).1 (omega arith),
)

pub never_both : (truth : Truth) (left right : List Path) (limit : ℕ) → HaveFewPairs truth left right limit → HaveMorePairs truth left right limit → ⊥
never_both truth left right limit h k =
    let least = found_at_most truth left right (limit + 1) h.pairs k h.are in
    let few = h.few in
    omega arith

pub composed_number : (p : ScriptPlan) (left right : List Path) (limit n : ℕ) (made : Composition) → ArePairs (test_truth p.tests) left right n → IsComposedWithin p left right limit made → ((segment : List Path) × (made ≡ One segment)) ↔ (n ≤ limit)
composed_number p left right limit n (One segment) a h = (
  λ is. (few_number (test_truth p.tests) left right limit n a).0 h.1,
  λ few. (segment, refl),
)
composed_number p left right limit n (Apart first second) a h = (
  λ (segment, is). absurd (cc),
  λ few. let more = (more_number (test_truth p.tests) left right limit n a).0 h.2 in absurd (omega arith),
)
