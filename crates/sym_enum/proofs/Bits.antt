-- A set of labels by the bits of its number.
use Rattle.std.proofs.Common.{◌≡◌, ◌≢◌, ℕ, zero, suc, ◌+◌, ◌-◌, ◌*◌, ◌/◌, ◌%◌, ◌^◌, ◌<◌, ◌≤◌, ◌↔◌, ◌==◌, ◌&&◌, ◌||◌, true, false, min, max, inl, inr, refl, sym, ◌∙◌, ap, subst, arith}
use Rattle.std.proofs.Math.Nat.{mod-eq_of_lt}
use Rattle.std.proofs.Math.Pow.{pow-lt}
use Rattle.std.proofs.lemmas.Bool.{eqb-true, eqb-false, eq-eqb, false≢true, false_from_ne_true, cases_eq, cases_lt, and_parts, and_from}
use Rattle.std.proofs.lemmas.Nat.Bits.{bit_at-lt, bit_at_and, bit_at_or, bit_at_xor, bit_at-pow_same, bit_at-pow_other, bit_at_ones, bit_at_ones_above, bit_at_above, same_from_bits, ones_shr, bit_at-zero, bit_at-trailing_zeros}
use Rattle.std.specs.Int.{bit_at, trailing_zeros}
use Rattle.std.specs.Int.RustNames.{bit_and, bit_or, bit_xor}
use mir.Syntax.{w32}

-- The bit at k is 1.
abbrev pub IsSet : ℕ → ℕ → Type 0
IsSet n k = (bit_at n k == 1) ≡ true

pub from_set : (n k : ℕ) → IsSet n k → bit_at n k ≡ 1
from_set n k h = eqb-true (bit_at n k) 1 h

pub to_set : (n k : ℕ) → bit_at n k ≡ 1 → IsSet n k
to_set n k h = eq-eqb (bit_at n k) 1 h

not_both : (x : ℕ) → x ≡ 0 → x ≡ 1 → ⊥
not_both x p q = omega arith

both : (x y : ℕ) → x < 2 → y < 2 → (min x y == 1) ≡ ((x == 1) && (y == 1))
both zero zero h k = refl
both zero (suc zero) h k = refl
both (suc zero) zero h k = refl
both (suc zero) (suc zero) h k = refl
both (suc (suc x)) y h k = absurd (omega arith)
both x (suc (suc y)) h k = absurd (omega arith)

either : (x y : ℕ) → x < 2 → y < 2 → (max x y == 1) ≡ ((x == 1) || (y == 1))
either zero zero h k = refl
either zero (suc zero) h k = refl
either (suc zero) zero h k = refl
either (suc zero) (suc zero) h k = refl
either (suc (suc x)) y h k = absurd (omega arith)
either x (suc (suc y)) h k = absurd (omega arith)

pub set_and : (a b k : ℕ) → (bit_at (bit_and a b) k == 1) ≡ ((bit_at a k == 1) && (bit_at b k == 1))
set_and a b k = ap (λ (n : ℕ). n == 1) (bit_at_and a b k) ∙ both (bit_at a k) (bit_at b k) (bit_at-lt a k) (bit_at-lt b k)

pub set_or : (a b k : ℕ) → (bit_at (bit_or a b) k == 1) ≡ ((bit_at a k == 1) || (bit_at b k == 1))
set_or a b k = ap (λ (n : ℕ). n == 1) (bit_at_or a b k) ∙ either (bit_at a k) (bit_at b k) (bit_at-lt a k) (bit_at-lt b k)

-- The number that stands for the set of one label.
pub one_label : (k : ℕ) → k < 32 → 1 * 2 ^ k % 4294967296 ≡ 2 ^ k
one_label k h = let p : 2 ^ k < 2 ^ 32 = pow-lt h in let q : 1 * 2 ^ k < 4294967296 = omega arith in mod-eq_of_lt q ∙ omega arith

pub set_pow : (k i : ℕ) → IsSet (2 ^ k) i ↔ (i ≡ k)
set_pow k i = (forth, λ e. to_set (2 ^ k) i (ap (bit_at (2 ^ k)) e ∙ bit_at-pow_same k))
  where
    forth : IsSet (2 ^ k) i → i ≡ k
    forth h = elim (cases_eq i k) [ inl e ↦ e | inr ne ↦ absurd (not_both (bit_at (2 ^ k) i) (bit_at-pow_other k i ne) (from_set (2 ^ k) i h)) ]

pub set_full : (count label : ℕ) → count ≤ 32 → IsSet (4294967295 / 2 ^ (32 - count)) label ↔ (label < count)
set_full count label h = rw as_ones (forth, λ p. to_set (2 ^ count - 1) label (bit_at_ones count label p))
  where
    within : 32 - count ≤ 32
    within = omega arith

    back : 32 - (32 - count) ≡ count
    back = omega arith

    as_ones : 4294967295 / 2 ^ (32 - count) ≡ 2 ^ count - 1
    as_ones = ones_shr 32 (32 - count) within ∙ ap (λ (n : ℕ). 2 ^ n - 1) back

    forth : IsSet (2 ^ count - 1) label → label < count
    forth s = elim (cases_lt label count) [ inl p ↦ p | inr p ↦ absurd (not_both (bit_at (2 ^ count - 1) label) (bit_at_ones_above count label p) (from_set (2 ^ count - 1) label s)) ]

-- No number has a bit from its width on.
pub no_high : (n k : ℕ) → n < 2 ^ 32 → 32 ≤ k → (bit_at n k == 1) ≡ false
no_high n k h p = ap (λ (x : ℕ). x == 1) (bit_at_above n 32 k h p)

pub no_bit : (k : ℕ) → (bit_at 0 k == 1) ≡ false
no_bit k = ap (λ (x : ℕ). x == 1) (bit_at-zero k)

from_unset : (n k : ℕ) → (bit_at n k == 1) ≡ false → bit_at n k ≡ 0
from_unset n k h =
    let small : bit_at n k < 2 = bit_at-lt n k in
    let other : bit_at n k ≡ 1 → ⊥ = eqb-false (bit_at n k) 1 h in
    omega arith

pub no_bits : (n : ℕ) → ((k : ℕ) → (bit_at n k == 1) ≡ false) → n ≡ 0
no_bits n h = same_from_bits n 0 (λ k. from_unset n k (h k) ∙ sym (bit_at-zero k))

pub bits_of_none : (n : ℕ) → n ≡ 0 → (k : ℕ) → (bit_at n k == 1) ≡ false
bits_of_none n e k = ap (λ (x : ℕ). bit_at x k == 1) e ∙ no_bit k

-- The part of a set with only one label, and the part without it.
pub split_only : (n label k : ℕ) → IsSet (bit_and n (2 ^ label)) k ↔ (IsSet n k × (k ≡ label))
split_only n label k = rw (set_and n (2 ^ label) k) (forth, back)
  where
    forth : ((bit_at n k == 1) && (bit_at (2 ^ label) k == 1)) ≡ true → IsSet n k × (k ≡ label)
    forth h = let parts : IsSet n k × IsSet (2 ^ label) k = and_parts (bit_at n k == 1) (bit_at (2 ^ label) k == 1) h in (parts.0, (set_pow label k).0 parts.1)

    back : IsSet n k × (k ≡ label) → ((bit_at n k == 1) && (bit_at (2 ^ label) k == 1)) ≡ true
    back h = and_from (bit_at n k == 1) (bit_at (2 ^ label) k == 1) h.0 ((set_pow label k).1 h.1)

less : (x y : ℕ) → x < 2 → y < 2 → (((x + min x y) % 2 == 1) ≡ true → (x ≡ 1) × (y ≡ 0)) × ((x ≡ 1) × (y ≡ 0) → ((x + min x y) % 2 == 1) ≡ true)
less zero zero h k = (λ e. absurd (false≢true e), λ e. absurd (omega arith))
less zero (suc zero) h k = (λ e. absurd (false≢true e), λ e. absurd (omega arith))
less (suc zero) zero h k = (λ e. (refl, refl), λ e. refl)
less (suc zero) (suc zero) h k = (λ e. absurd (false≢true e), λ e. absurd (omega arith))
less (suc (suc x)) y h k = absurd (omega arith)
less x (suc (suc y)) h k = absurd (omega arith)

pub split_rest : (n label k : ℕ) → IsSet (bit_xor n (bit_and n (2 ^ label))) k ↔ (IsSet n k × (k ≢ label))
split_rest n label k = rw (bit_at_xor n (bit_and n (2 ^ label)) k, bit_at_and n (2 ^ label) k) (forth, back)
  where
    both_ways : (((bit_at n k + min (bit_at n k) (bit_at (2 ^ label) k)) % 2 == 1) ≡ true → (bit_at n k ≡ 1) × (bit_at (2 ^ label) k ≡ 0)) × ((bit_at n k ≡ 1) × (bit_at (2 ^ label) k ≡ 0) → ((bit_at n k + min (bit_at n k) (bit_at (2 ^ label) k)) % 2 == 1) ≡ true)
    both_ways = less (bit_at n k) (bit_at (2 ^ label) k) (bit_at-lt n k) (bit_at-lt (2 ^ label) k)

    forth : ((bit_at n k + min (bit_at n k) (bit_at (2 ^ label) k)) % 2 == 1) ≡ true → IsSet n k × (k ≢ label)
    forth h = (to_set n k ((both_ways.0 h).0), λ e. not_both (bit_at (2 ^ label) k) (both_ways.0 h).1 (ap (bit_at (2 ^ label)) e ∙ bit_at-pow_same label))

    back : IsSet n k × (k ≢ label) → ((bit_at n k + min (bit_at n k) (bit_at (2 ^ label) k)) % 2 == 1) ≡ true
    back h = both_ways.1 (from_set n k h.0, bit_at-pow_other label k h.1)

pub set_of_pow : (n k : ℕ) → n ≡ 2 ^ k → (i : ℕ) → IsSet n i ↔ (i ≡ k)
set_of_pow n k e i = subst (λ (m : ℕ). IsSet m i ↔ (i ≡ k)) (sym e) (set_pow k i)

-- A set of one label is that label's power of two.
pub one_bit : (n k : ℕ) → ((i : ℕ) → IsSet n i ↔ (i ≡ k)) → n ≡ 2 ^ k
one_bit n k h = same_from_bits n (2 ^ k) same
  where
    same : (i : ℕ) → bit_at n i ≡ bit_at (2 ^ k) i
    same i = elim (cases_eq i k) [ inl e ↦ from_set n i ((h i).1 e) ∙ sym (from_set (2 ^ k) i ((set_pow k i).1 e)) | inr ne ↦ from_unset n i (false_from_ne_true (bit_at n i == 1) (λ s. ne ((h i).0 s))) ∙ sym (bit_at-pow_other k i ne) ]

-- The place of the lowest bit of a set of one label is that label.
pub lowest_of_one : (n k : ℕ) → n < 2 ^ 32 → ((i : ℕ) → IsSet n i ↔ (i ≡ k)) → (trailing_zeros w32 n < 32) × (trailing_zeros w32 n ≡ k)
lowest_of_one n k small h = (place.0, (h (trailing_zeros w32 n)).0 (to_set n (trailing_zeros w32 n) place.1))
  where
    apart : n ≢ 0
    apart e = not_both (bit_at n k) (ap (λ (m : ℕ). bit_at m k) e ∙ bit_at-zero k) (from_set n k ((h k).1 refl))

    some : 0 < n
    some = omega (arith, apart)

    place : (trailing_zeros w32 n < 32) × (bit_at n (trailing_zeros w32 n) ≡ 1) × ((i : ℕ) → i < trailing_zeros w32 n → bit_at n i ≡ 0)
    place = bit_at-trailing_zeros w32 n some small

-- Two bits of which both or none are 1 are equal.
pub same_bit : (a b k : ℕ) → (bit_at a k == 1) ≡ (bit_at b k == 1) → bit_at a k ≡ bit_at b k
same_bit a b k h = equal (bit_at a k) (bit_at b k) (bit_at-lt a k) (bit_at-lt b k) h
  where
    equal : (x y : ℕ) → x < 2 → y < 2 → (x == 1) ≡ (y == 1) → x ≡ y
    equal zero zero p q e = refl
    equal zero (suc zero) p q e = absurd (false≢true e)
    equal (suc zero) zero p q e = absurd (false≢true (sym e))
    equal (suc zero) (suc zero) p q e = refl
    equal (suc (suc x)) y p q e = absurd (omega arith)
    equal x (suc (suc y)) p q e = absurd (omega arith)
