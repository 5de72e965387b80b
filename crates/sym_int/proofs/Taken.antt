-- The bounds of a line whose numbers at two points or more are numbers of a script.
use Rattle.std.proofs.Common.{◌≡◌, ◌*◌, ◌≤◌, ℤ, pos, ◌+ℤ◌, ◌*ℤ◌, ◌<ℤ◌, ◌≤ℤ◌, ap, arith, unsigned_abs}
use Rattle.std.proofs.lemmas.Int.{ints}
use Rattle.sym_base.specs.Limits.{num_max, IsNumber}
use Rattle.sym_int.proofs.Products.{times_sum, product_size}
use Rattle.sym_int.specs.Bounds.{slope_max, offset_max}

slope_between : (a b lo : ℤ) → IsNumber (a *ℤ lo +ℤ b) → IsNumber (a *ℤ (lo +ℤ pos 1) +ℤ b) → unsigned_abs a ≤ slope_max
slope_between a b lo p q = let next : a *ℤ (lo +ℤ pos 1) ≡ a *ℤ lo +ℤ a *ℤ pos 1 = times_sum a lo (pos 1) in omega (arith, ints)

pub slope_of_two : (a b lo hi : ℤ) → lo <ℤ hi → ((x : ℤ) → (lo ≤ℤ x) × (x ≤ℤ hi) → IsNumber (a *ℤ x +ℤ b)) → unsigned_abs a ≤ slope_max
slope_of_two a b lo hi h numbers = slope_between a b lo (numbers lo (omega (arith, ints), omega (arith, ints))) (numbers (lo +ℤ pos 1) (omega (arith, ints), omega (arith, ints)))

offset_of_one : (a b x : ℤ) → IsNumber x → unsigned_abs a ≤ slope_max → IsNumber (a *ℤ x +ℤ b) → unsigned_abs b ≤ offset_max
offset_of_one a b x in_range slope number =
    let product : unsigned_abs (a *ℤ x) ≤ slope_max * num_max = product_size a x slope_max num_max slope in_range in
    omega (arith, ints)

pub offset_of_two : (a b lo hi : ℤ) → IsNumber lo → lo <ℤ hi → ((x : ℤ) → (lo ≤ℤ x) × (x ≤ℤ hi) → IsNumber (a *ℤ x +ℤ b)) → unsigned_abs b ≤ offset_max
offset_of_two a b lo hi first h numbers = offset_of_one a b lo first (slope_of_two a b lo hi h numbers) (numbers lo (omega (arith, ints), omega (arith, ints)))

-- A span of one point has no other.
pub same_on_one : (a b lo hi x : ℤ) → hi ≤ℤ lo → (lo ≤ℤ x) × (x ≤ℤ hi) → a *ℤ lo +ℤ b ≡ a *ℤ x +ℤ b
same_on_one a b lo hi x h p = let e : lo ≡ x = omega (arith, ints) in ap (λ (t : ℤ). a *ℤ t +ℤ b) e
