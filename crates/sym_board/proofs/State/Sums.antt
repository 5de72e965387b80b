-- Sums over a list of views of which one changes, and lists read by place.
use Rattle.std.proofs.Common.{◌≡◌, ◌≢◌, ℕ, zero, suc, ◌+◌, ◌<◌, ◌≤◌, List, [], ◌∷◌, length, set, sum_by, sym, refl, ap, arith}
use Rattle.std.proofs.lemmas.List.Sums.{sum_by-cons}
use mathlib.Core.Option.{some, some-injective, some-ne-none}
use lib.ListN.{get_elem?}

module _ {X : Type 0} (f : X → ℕ) where
  -- the sum after one element changed
  pub sum_set : (l : List X) (i : ℕ) (v w : X) → get_elem? l i ≡ some v → sum_by f (set l i w) + f v ≡ sum_by f l + f w
  sum_set [] i v w e = absurd (some-ne-none v (sym e))
  sum_set (x ∷ xs) zero v w e = let h : f x ≡ f v = ap f (some-injective x v e) in let a = sum_by-cons f x xs in let b = sum_by-cons f w xs in omega arith
  sum_set (x ∷ xs) (suc i) v w e = let h = sum_set xs i v w e in let a = sum_by-cons f x xs in let b = sum_by-cons f x (set xs i w) in omega arith

  -- one element is at most the sum
  pub sum_one : (l : List X) (i : ℕ) (v : X) → get_elem? l i ≡ some v → f v ≤ sum_by f l
  sum_one [] i v e = absurd (some-ne-none v (sym e))
  sum_one (x ∷ xs) zero v e = let h : f x ≡ f v = ap f (some-injective x v e) in let a = sum_by-cons f x xs in omega arith
  sum_one (x ∷ xs) (suc i) v e = let h = sum_one xs i v e in let a = sum_by-cons f x xs in omega arith

  -- two elements are at most the sum
  pub sum_two : (l : List X) (i j : ℕ) (v w : X) → i ≢ j → get_elem? l i ≡ some v → get_elem? l j ≡ some w → f v + f w ≤ sum_by f l
  sum_two [] i j v w n e d = absurd (some-ne-none v (sym e))
  sum_two (x ∷ xs) zero zero v w n e d = absurd (n refl)
  sum_two (x ∷ xs) zero (suc j) v w n e d = let h : f x ≡ f v = ap f (some-injective x v e) in let t = sum_one xs j w d in let a = sum_by-cons f x xs in omega arith
  sum_two (x ∷ xs) (suc i) zero v w n e d = let h : f x ≡ f w = ap f (some-injective x w d) in let t = sum_one xs i v e in let a = sum_by-cons f x xs in omega arith
  sum_two (x ∷ xs) (suc i) (suc j) v w n e d = let t = sum_two xs i j v w (λ p. n (ap suc p)) e d in let a = sum_by-cons f x xs in omega arith

pub sum_le : {X : Type 0} (f g : X → ℕ) (l : List X) → ((j : ℕ) (v : X) → get_elem? l j ≡ some v → f v ≤ g v) → sum_by f l ≤ sum_by g l
sum_le f g [] h = omega arith
sum_le f g (x ∷ xs) h = let a = h 0 x refl in let b = sum_le f g xs (λ j v e. h (suc j) v e) in let c = sum_by-cons f x xs in let d = sum_by-cons g x xs in omega arith

pub at_below : {X : Type 0} (l : List X) (i : ℕ) (v : X) → get_elem? l i ≡ some v → i < length l
at_below [] i v e = absurd (some-ne-none v (sym e))
at_below (x ∷ xs) zero v e = omega arith
at_below (x ∷ xs) (suc i) v e = let h = at_below xs i v e in omega arith
