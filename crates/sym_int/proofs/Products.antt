-- Laws of sums and products of whole numbers, and how large they are.
use Rattle.std.proofs.Common.{◌≡◌, ℕ, ◌+◌, ◌*◌, ◌<◌, ◌≤◌, ℤ, pos, neg_ℤ, ◌+ℤ◌, ◌*ℤ◌, ◌≤ℤ◌, ◌≢◌, ◌^◌, ap, sym, ◌∙◌, arith, unsigned_abs, to_z, of_z, to_z-of_z, FitsSigned, w64}
use Rattle.std.proofs.Math.Nat.{mul-le-mul_left}
use Rattle.std.proofs.lemmas.Int.{ints, unsigned_abs-mul, fits_signed_from_abs}
use Rattle.std.proofs.lemmas.Nat.{mul-le}
use mir.Syntax.{w128}
use borrow.Author.Differences.{up, down, le_out, same_in, sum_is_lem, product_is, neg_is}

pub times_sum : (a x y : ℤ) → a *ℤ (x +ℤ y) ≡ a *ℤ x +ℤ a *ℤ y
times_sum a x y =
    same_in (a *ℤ (x +ℤ y)) (a *ℤ x +ℤ a *ℤ y) (omega (arith, product_is a (x +ℤ y), product_is a x, product_is a y, sum_is_lem (a *ℤ x) (a *ℤ y), ap (λ (t : ℕ). up a * t) (sum_is_lem x y), ap (λ (t : ℕ). down a * t) (sum_is_lem x y)))

pub times_product : (a b x : ℤ) → a *ℤ (b *ℤ x) ≡ (a *ℤ b) *ℤ x
times_product a b x =
    same_in (a *ℤ (b *ℤ x)) ((a *ℤ b) *ℤ x)
    (omega (
      arith,
      product_is a (b *ℤ x),
      product_is (a *ℤ b) x,
      ap (λ (t : ℕ). up a * t) (product_is b x).0,
      ap (λ (t : ℕ). up a * t) (product_is b x).1,
      ap (λ (t : ℕ). down a * t) (product_is b x).0,
      ap (λ (t : ℕ). down a * t) (product_is b x).1,
      ap (λ (t : ℕ). t * up x) (product_is a b).0,
      ap (λ (t : ℕ). t * up x) (product_is a b).1,
      ap (λ (t : ℕ). t * down x) (product_is a b).0,
      ap (λ (t : ℕ). t * down x) (product_is a b).1,
    ))

-- The product of the opposites of two numbers is theirs.
pub opposites : (a x : ℤ) → neg_ℤ a *ℤ neg_ℤ x ≡ a *ℤ x
opposites a x =
    same_in (neg_ℤ a *ℤ neg_ℤ x) (a *ℤ x)
    (omega (
      arith,
      product_is (neg_ℤ a) (neg_ℤ x),
      product_is a x,
      neg_is a,
      neg_is x,
      ap (λ (t : ℕ). t * up (neg_ℤ x)) (neg_is a).0,
      ap (λ (t : ℕ). t * down (neg_ℤ x)) (neg_is a).1,
      ap (λ (t : ℕ). t * down (neg_ℤ x)) (neg_is a).0,
      ap (λ (t : ℕ). t * up (neg_ℤ x)) (neg_is a).1,
      ap (λ (t : ℕ). down a * t) (neg_is x).0,
      ap (λ (t : ℕ). up a * t) (neg_is x).1,
      ap (λ (t : ℕ). down a * t) (neg_is x).1,
      ap (λ (t : ℕ). up a * t) (neg_is x).0,
    ))

-- A product with a factor that is not negative keeps the order.
pub times_keeps : (k : ℕ) (x y : ℤ) → x ≤ℤ y → (pos k *ℤ x) ≤ℤ (pos k *ℤ y)
times_keeps k x y h = omega (arith, ints, mul-le-mul_left k (le_out x y h))

-- How large a product and a sum can be.
pub product_size : (a x : ℤ) (m n : ℕ) → unsigned_abs a ≤ m → unsigned_abs x ≤ n → unsigned_abs (a *ℤ x) ≤ m * n
product_size a x m n h k = rw (unsigned_abs-mul a x) (mul-le _ _ _ _ h k)

pub sum_size : (x y : ℤ) (m n : ℕ) → unsigned_abs x ≤ m → unsigned_abs y ≤ n → unsigned_abs (x +ℤ y) ≤ m + n
sum_size x y m n h k = omega (arith, ints)

-- ---- what the program's numbers of 64 and 128 bits stand for
pub fits : (z : ℤ) (m : ℕ) → unsigned_abs z ≤ m → m < 2 ^ 127 → FitsSigned w128 z
fits z m h k = fits_signed_from_abs w128 z (omega arith)

pub shown : (z : ℤ) (m : ℕ) → unsigned_abs z ≤ m → m < 2 ^ 127 → to_z w128 (of_z w128 z) ≡ z
shown z m h k = to_z-of_z (fits z m h k)

pub shown_64 : (z : ℤ) (m : ℕ) → unsigned_abs z ≤ m → m < 2 ^ 63 → to_z w64 (of_z w64 z) ≡ z
shown_64 z m h k = to_z-of_z (fits_signed_from_abs w64 z (omega arith))

pub shown_product : (a x : ℤ) (m n : ℕ) → unsigned_abs a ≤ m → unsigned_abs x ≤ n → m < 2 ^ 127 → n < 2 ^ 127 → m * n < 2 ^ 127 → to_z w128 (of_z w128 (to_z w128 (of_z w128 a) *ℤ to_z w128 (of_z w128 x))) ≡ a *ℤ x
shown_product a x m n h k p q r = rw (shown a m h p, shown x n k q) (shown (a *ℤ x) (m * n) (product_size a x m n h k) r)

pub line_size : (a x b : ℤ) (m n k : ℕ) → unsigned_abs a ≤ m → unsigned_abs x ≤ n → unsigned_abs b ≤ k → unsigned_abs (a *ℤ x +ℤ b) ≤ m * n + k
line_size a x b m n k h i j = sum_size (a *ℤ x) b (m * n) k (product_size a x m n h i) j

pub shown_line : (a x b : ℤ) (m n k : ℕ) → unsigned_abs a ≤ m → unsigned_abs x ≤ n → unsigned_abs b ≤ k → m < 2 ^ 127 → n < 2 ^ 127 → m * n + k < 2 ^ 127 → to_z w128 (of_z w128 (to_z w128 (of_z w128 (to_z w128 (of_z w128 a) *ℤ to_z w128 (of_z w128 x))) +ℤ to_z w128 (of_z w128 b))) ≡ a *ℤ x +ℤ b
shown_line a x b m n k h i j p q r =
    let product : m * n < 2 ^ 127 = omega arith in
    let offset : k < 2 ^ 127 = omega arith in
    rw (shown_product a x m n h i p q product, shown b k j offset) (shown (a *ℤ x +ℤ b) (m * n + k) (line_size a x b m n k h i j) r)

-- A product of numbers that aren't 0 isn't 0.
pub product_apart : (a x : ℤ) → a ≢ pos 0 → x ≢ pos 0 → a *ℤ x ≢ pos 0
product_apart a x h k e =
    let zero : unsigned_abs a * unsigned_abs x ≡ 0 = sym (unsigned_abs-mul a x) ∙ ap unsigned_abs e in
    let some : 1 ≤ unsigned_abs a = omega (arith, ints) in
    let more : 1 ≤ unsigned_abs x = omega (arith, ints) in
    let product : 1 * 1 ≤ unsigned_abs a * unsigned_abs x = mul-le 1 1 _ _ some more in
    omega arith

-- A line over a line.
pub line_of_line : (a b c d x : ℤ) → (a *ℤ c) *ℤ x +ℤ (a *ℤ d +ℤ b) ≡ a *ℤ (c *ℤ x +ℤ d) +ℤ b
line_of_line a b c d x = rw (times_sum a (c *ℤ x) d, times_product a c x) (omega (arith, ints))

pub zero_times : (a v b : ℤ) → a ≡ pos 0 → a *ℤ v +ℤ b ≡ b
zero_times a v b e = ap (λ (t : ℤ). t *ℤ v +ℤ b) e ∙ omega (arith, ints)
