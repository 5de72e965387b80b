-- Arithmetic on the numbers of a script. It fails where a result is no such number and where a
-- divisor is 0.
use Rattle.std.specs.Prelude.{ℤ, pos, ◌+ℤ◌, ◌-ℤ◌, ◌*ℤ◌, int_div, int_rem, unsigned_abs, nat_le, if◌then◌else◌, Result, Ok, Err}
use Rattle.std.specs.Ordering.{int_eq}
use Rattle.sym_base.specs.Limits.{num_max}
use Rattle.sym_check.specs.declared.evaluate.arithmetic.Arith.{Arith}
use Rattle.sym_check.specs.declared.plan.expression.ArithOp.{ArithOp}
use Rattle.sym_check.specs.declared.plan.expression.ArithOp.TheVariants as op

-- Goes on with a value; what has failed stays so.
abbrev pub and_then : {A B E : Type 0} → (A → Result B E) → Result A E → Result B E
and_then f (Ok x) = f x
and_then f (Err e) = Err e

infixl 10 ◌>>=◌
abbrev pub ◌>>=◌ : {A B E : Type 0} → Result A E → (A → Result B E) → Result B E
r >>= f = and_then f r

abbrev pub failed : {A : Type 0} → Result A Arith
failed = Err (record {})

-- The number x, where it is one of a script: at most 10^12 in size.
abbrev pub within : ℤ → Result ℤ Arith
within x = if nat_le (unsigned_abs x) num_max then Ok x else failed

-- A quotient or a remainder by y, which isn't 0.
abbrev pub divided : ℤ → ℤ → Result ℤ Arith
divided y x = if int_eq y (pos 0) then failed else within x

-- A quotient is rounded towards zero, a remainder has the sign of the left operand.
abbrev pub calculated : ArithOp → ℤ → ℤ → Result ℤ Arith
calculated op.Add x y = within (x +ℤ y)
calculated op.Sub x y = within (x -ℤ y)
calculated op.Mul x y = within (x *ℤ y)
calculated op.Div x y = divided y (int_div x y)
calculated op.Rem x y = divided y (int_rem x y)
