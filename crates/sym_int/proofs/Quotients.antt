-- The quotient that rounds down, and where a line is at most a limit.
use Rattle.std.proofs.Common.{◌≡◌, ℕ, ◌+◌, ◌*◌, ◌<◌, ◌≤◌, ◌↔◌, ℤ, pos, negsuc, neg_ℤ, ◌+ℤ◌, ◌-ℤ◌, ◌*ℤ◌, ◌<ℤ◌, ◌≤ℤ◌, arith}
use Rattle.std.proofs.lemmas.Int.{ints, by_lt_z}
use Rattle.std.specs.Int.{int_div_euclid}
use Rattle.sym_int.proofs.Products.{times_sum, times_keeps, opposites}
use borrow.Author.Differences.{up, down}

quotient_parts : (n : ℤ) (k : ℕ) → 0 < k → (up (int_div_euclid n (pos k)) * k + down n ≤ down (int_div_euclid n (pos k)) * k + up n) × (down (int_div_euclid n (pos k)) * k + up n < up (int_div_euclid n (pos k)) * k + down n + k)
quotient_parts (pos a) k h = omega arith
quotient_parts (negsuc a) k h = omega arith

-- k times the quotient is at most the number, and k times the next one is above it.
quotient_below : (n : ℤ) (k : ℕ) → 0 < k → (pos k *ℤ int_div_euclid n (pos k)) ≤ℤ n
quotient_below n k h = omega (arith, ints, quotient_parts n k h)

quotient_above : (n : ℤ) (k : ℕ) → 0 < k → n <ℤ (pos k *ℤ (int_div_euclid n (pos k) +ℤ pos 1))
quotient_above n k h = rw (times_sum (pos k) (int_div_euclid n (pos k)) (pos 1)) (omega (arith, ints, quotient_parts n k h))

to_product : (n x : ℤ) (k : ℕ) → 0 < k → x ≤ℤ int_div_euclid n (pos k) → (pos k *ℤ x) ≤ℤ n
to_product n x k h p = omega (arith, ints, times_keeps k x (int_div_euclid n (pos k)) p, quotient_below n k h)

from_product : (n x : ℤ) (k : ℕ) → 0 < k → (pos k *ℤ x) ≤ℤ n → x ≤ℤ int_div_euclid n (pos k)
from_product n x k h p =
    by_lt_z (int_div_euclid n (pos k)) x
    (λ above.
    let next : (int_div_euclid n (pos k) +ℤ pos 1) ≤ℤ x = omega (arith, ints) in
    absurd (omega (arith, ints, times_keeps k (int_div_euclid n (pos k) +ℤ pos 1) x next, quotient_above n k h)))
    (λ below. below)

-- A number is at most the quotient exactly where its product with the divisor is at most the dividend.
pub quotient_exact : (n d x : ℤ) → pos 0 <ℤ d → (x ≤ℤ int_div_euclid n d) ↔ ((d *ℤ x) ≤ℤ n)
quotient_exact n (pos k) x h = let some : 0 < k = omega (arith, ints) in (to_product n x k some, from_product n x k some)
quotient_exact n (negsuc k) x h = absurd (omega (arith, ints))

-- A rising line is at most a limit up to the quotient.
rising : (a b limit last x : ℤ) → ((x ≤ℤ last) ↔ ((a *ℤ x) ≤ℤ (limit -ℤ b))) → (x ≤ℤ last) ↔ ((a *ℤ x +ℤ b) ≤ℤ limit)
rising a b limit last x h =
    (λ p. let q : (a *ℤ x) ≤ℤ (limit -ℤ b) = h.0 p in omega (arith, ints), λ p. let q : (a *ℤ x) ≤ℤ (limit -ℤ b) = omega (arith, ints) in h.1 q)

-- A falling line is above the limit up to the number before the opposite of the quotient.
falling : (a b limit last x : ℤ) → ((neg_ℤ x ≤ℤ last) ↔ ((a *ℤ x) ≤ℤ (limit -ℤ b))) → (x ≤ℤ (negsuc 0 -ℤ last)) ↔ (limit <ℤ (a *ℤ x +ℤ b))
falling a b limit last x h = (
  λ p. by_lt_z limit (a *ℤ x +ℤ b) (λ q. q)
      (λ q. let r : (a *ℤ x) ≤ℤ (limit -ℤ b) = omega (arith, ints) in let s : neg_ℤ x ≤ℤ last = h.1 r in absurd (omega (arith, ints))),
  λ p. by_lt_z (negsuc 0 -ℤ last) x
      (λ q. let r : neg_ℤ x ≤ℤ last = omega (arith, ints) in let s : (a *ℤ x) ≤ℤ (limit -ℤ b) = h.0 r in absurd (omega (arith, ints)))
      (λ q. q),
)

-- The same with what a program has in place of a, of limit - b and of the last number.
pub rising_at : (a b limit last x d room shown : ℤ) → d ≡ a → room ≡ limit -ℤ b → shown ≡ last → ((x ≤ℤ last) ↔ ((d *ℤ x) ≤ℤ room)) → (x ≤ℤ shown) ↔ ((a *ℤ x +ℤ b) ≤ℤ limit)
rising_at a b limit last x d room shown e f g h = let k = rw (e, f) at h in rw g (rising a b limit last x k)

-- For a falling line the program has the opposite of a.
pub falling_at : (a b limit last x d room shown : ℤ) → d ≡ neg_ℤ a → room ≡ limit -ℤ b → shown ≡ negsuc 0 -ℤ last → ((neg_ℤ x ≤ℤ last) ↔ ((d *ℤ neg_ℤ x) ≤ℤ room)) → (x ≤ℤ shown) ↔ (limit <ℤ (a *ℤ x +ℤ b))
falling_at a b limit last x d room shown e f g h = let k = rw (e, f, opposites a x) at h in rw g (falling a b limit last x k)
