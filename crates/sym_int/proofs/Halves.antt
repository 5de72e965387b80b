-- How large the parts of an offset are.
use Rattle.std.proofs.Common.{◌≡◌, ℕ, ◌*◌, ◌<◌, ◌≤◌, ◌^◌, ℤ, pos, negsuc, ◌*ℤ◌, ◌-ℤ◌, arith, lit<, unsigned_abs, to_z, of_z, to_z-of_z, w32}
use Rattle.std.proofs.lemmas.Int.{ints, fits_signed_from_abs}
use Rattle.sym_int.proofs.Products.{shown}
use Rattle.sym_int.specs.Bounds.{offset_max}
use Rattle.sym_int.specs.Offsets.{joined, joined_is, high_of}
use mir.Syntax.{w128}

-- A little more than the largest upper part of an offset.
abbrev pub high_max : ℕ
high_max = 2 ^ 17

pub high_size : (b : ℤ) → unsigned_abs b ≤ offset_max → unsigned_abs (high_of b) ≤ high_max
high_size (pos n) h = omega (arith, ints)
high_size (negsuc n) h = omega (arith, ints)

pub high_bounded : (high : ℤ) (low : ℕ) → low < 2 ^ 64 → unsigned_abs (joined high low) ≤ offset_max → unsigned_abs high ≤ high_max
high_bounded high low p h = let size = rw (joined_is high low) at h in omega (arith, ints)

pub shown_32 : (z : ℤ) → unsigned_abs z ≤ high_max → to_z w32 (of_z w32 z) ≡ z
shown_32 z h = to_z-of_z (fits_signed_from_abs w32 z (omega arith))

pub shown_high : (z : ℤ) → unsigned_abs z ≤ high_max → to_z w128 (of_z w128 z) ≡ z
shown_high z h = shown z high_max h (lit< tt)

-- An upper part in the whole number.
pub shown_raised : (z : ℤ) → unsigned_abs z ≤ high_max → to_z w128 (of_z w128 (z *ℤ pos (2 ^ 64))) ≡ z *ℤ pos (2 ^ 64)
shown_raised z h = shown (z *ℤ pos (2 ^ 64)) (high_max * 2 ^ 64) (omega (arith, ints)) (lit< tt)

-- What is left of an offset below its upper part.
pub shown_rest : (b : ℤ) → unsigned_abs b ≤ offset_max → to_z w128 (of_z w128 (b -ℤ high_of b *ℤ pos (2 ^ 64))) ≡ b -ℤ high_of b *ℤ pos (2 ^ 64)
shown_rest b h = let size = high_size b h in shown (b -ℤ high_of b *ℤ pos (2 ^ 64)) (2 ^ 84) (omega (arith, ints)) (lit< tt)
