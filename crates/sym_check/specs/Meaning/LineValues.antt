-- What lines stand for: a pair (a, b) over a cell, whose number where the cell holds x is
-- a * x + b.
use Rattle.std.specs.Prelude.{ℕ, ℤ, pos, neg_ℤ, ◌+ℤ◌, ◌*ℤ◌, Result, Ok}
use Rattle.sym_base.specs.declared.values.state.State.{State}
use Rattle.sym_base.specs.States.{number_at}
use Rattle.sym_check.specs.declared.evaluate.arithmetic.Arith.{Arith}
use Rattle.sym_check.specs.declared.evaluate.pairs.Pair.{Pair}
use Rattle.sym_check.specs.Meaning.Arithmetic.{◌>>=◌, within}
use Rattle.sym_check.specs.Meaning.FixedValues.{Environment, number}
use Rattle.sym_check.specs.Plan.LinePlans.{LinePlan, Cell, Neg, Add, Scale, TermPlan, OfNum, OfLine}

-- The pair, where both of its numbers are numbers of a script.
abbrev pub pair_within : ℕ → ℤ → ℤ → Result Pair Arith
pair_within cell a b = do
  slope ← within a
  height ← within b
  Ok (record { cell = cell; a = slope; b = height })

abbrev pub pair : Environment → LinePlan → Result Pair Arith
pair k (Cell c) = Ok (record { cell = c; a = pos 1; b = pos 0 })
pair k (Neg l) = do
  p ← pair k l
  pair_within p.cell (neg_ℤ p.a) (neg_ℤ p.b)
pair k (Add l n) = do
  f ← number k n
  p ← pair k l
  pair_within p.cell p.a (p.b +ℤ f)
pair k (Scale n l) = do
  f ← number k n
  p ← pair k l
  pair_within p.cell (f *ℤ p.a) (f *ℤ p.b)

-- The number of a pair where its cell holds x, of any size.
abbrev pub pair_at : Pair → ℤ → ℤ
pair_at p x = p.a *ℤ x +ℤ p.b

-- The number of a term at a state.
abbrev pub term_number : Environment → TermPlan → State → Result ℤ Arith
term_number k (OfNum n) s = number k n
term_number k (OfLine l) s = do
  p ← pair k l
  Ok (pair_at p (number_at s p.cell))
