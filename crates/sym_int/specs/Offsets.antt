-- A line's offset by its parts above and below 2^64.
use Rattle.std.specs.Prelude.{◌≡◌, ℕ, ◌<◌, ◌^◌, ℤ, pos, negsuc, ◌+ℤ◌, ◌-ℤ◌, ◌*ℤ◌, unsigned_abs, refl}
use Rattle.std.proofs.Common.{arith}
use Rattle.std.proofs.lemmas.Int.{ints}
use Rattle.std.specs.Int.{int_shr}

-- The number with these parts.
unfoldable pub joined : ℤ → ℕ → ℤ
joined high low = high *ℤ pos (2 ^ 64) +ℤ pos low

pub joined_is : (high : ℤ) (low : ℕ) → joined high low ≡ high *ℤ pos (2 ^ 64) +ℤ pos low
unfolding joined
joined_is high low = refl

-- The upper part of a number: its quotient by 2^64, rounded down.
abbrev pub high_of : ℤ → ℤ
high_of b = int_shr b 64

-- The lower part: what is left.
abbrev pub low_of : ℤ → ℕ
low_of b = unsigned_abs (b -ℤ high_of b *ℤ pos (2 ^ 64))

-- The parts of a number make it again.
pub joined_again : (b : ℤ) → joined (high_of b) (low_of b) ≡ b
unfolding joined
joined_again (pos n) = omega (arith, ints)
joined_again (negsuc n) = omega (arith, ints)

pub low_below : (b : ℤ) → low_of b < 2 ^ 64
low_below (pos n) = omega (arith, ints)
low_below (negsuc n) = omega (arith, ints)
