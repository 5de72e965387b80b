-- The truth of a comparison by where the number lies.
use Rattle.std.proofs.Common.{◌≡◌, ℤ, pos, ◌-ℤ◌, ◌<ℤ◌, ◌≤ℤ◌, ◌↔◌, ◌⊎◌, inl, inr, Bool, true, false, not, refl, arith, int_lt, int_le}
use Rattle.std.proofs.lemmas.Bool.{not-false, not_from_true}
use Rattle.std.proofs.lemmas.Bool.Decides.{Decides-int_eq}
use Rattle.std.proofs.lemmas.Int.{ints}
use Rattle.std.specs.Ordering.{int_eq}

pub lt_true : (v b limit : ℤ) → limit ≡ b -ℤ pos 1 → (v ≤ℤ limit) ↔ (int_lt v b ≡ true)
lt_true v b limit e = (λ h. let below : v <ℤ b = omega (arith, ints) in grind (arith, ints), λ h. omega (arith, ints))

pub le_true : (v b limit : ℤ) → limit ≡ b → (v ≤ℤ limit) ↔ (int_le v b ≡ true)
le_true v b limit e = (λ h. let below : v ≤ℤ b = omega (arith, ints) in grind (arith, ints), λ h. omega (arith, ints))

pub gt_false : (v b limit : ℤ) → limit ≡ b → (v ≤ℤ limit) ↔ (int_lt b v ≡ false)
gt_false v b limit e = (λ h. let below : v ≤ℤ b = omega (arith, ints) in grind (arith, ints), λ h. omega (arith, ints))

pub ge_false : (v b limit : ℤ) → limit ≡ b -ℤ pos 1 → (v ≤ℤ limit) ↔ (int_le b v ≡ false)
ge_false v b limit e = (λ h. let below : v <ℤ b = omega (arith, ints) in grind (arith, ints), λ h. omega (arith, ints))

pub eq_true : (v b : ℤ) → ((b ≤ℤ v) × (v ≤ℤ b)) ↔ (int_eq v b ≡ true)
eq_true v b = (λ h. let e : v ≡ b = omega (arith, ints) in (Decides-int_eq v b).1 e, λ h. let e : v ≡ b = (Decides-int_eq v b).0 h in (omega (arith, ints), omega (arith, ints)))

pub ne_false : (v b : ℤ) → ((b ≤ℤ v) × (v ≤ℤ b)) ↔ (not (int_eq v b) ≡ false)
ne_false v b = (λ h. not_from_true (int_eq v b) ((eq_true v b).0 h), λ h. (eq_true v b).1 (not-false (int_eq v b) h))

-- Two truths are the same, or one is the opposite of the other.
pub same_or_not : (a b : Bool) → (a ≡ b) ⊎ (a ≡ not b)
same_or_not true true = inl refl
same_or_not true false = inr refl
same_or_not false true = inr refl
same_or_not false false = inl refl
