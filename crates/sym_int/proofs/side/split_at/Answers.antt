use Rattle.std.proofs.Common.{arith}
use Rattle.std.proofs.lemmas.Int.{ints}
use Rattle.sym_int.proofs.side.split_at.Goals as goal

pub invariant_of-after : goal.invariant_of-after
invariant_of-after c = record { lo_in = omega (arith, ints); ordered = omega (arith, ints); hi_in = omega (arith, ints) }

pub returns-clause-before : goal.returns-clause-before
returns-clause-before c = λ x. (λ h. ((omega (arith, ints), omega (arith, ints)), omega (arith, ints)), λ h. (omega (arith, ints), omega (arith, ints)))

pub returns-clause-after : goal.returns-clause-after
returns-clause-after c = λ x. (λ h. ((omega (arith, ints), omega (arith, ints)), omega (arith, ints)), λ h. (omega (arith, ints), omega (arith, ints)))
