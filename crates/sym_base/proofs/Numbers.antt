-- The numbers of scripts and data.
use Rattle.std.proofs.Common.{ℤ, unsigned_abs}
use Rattle.std.specs.Bool.{Decides}
use Rattle.std.proofs.lemmas.Bool.{le-leb, leb-true}
use Rattle.sym_base.specs.Limits.{num_max, IsNumber, is_number}

pub number-Decides : (x : ℤ) → Decides (is_number x) (IsNumber x)
unfolding is_number
number-Decides x = (leb-true (unsigned_abs x) num_max, le-leb (unsigned_abs x) num_max)
