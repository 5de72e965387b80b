use Rattle.std.proofs.Common.{arith}
use Rattle.std.proofs.lemmas.Int.{ints, clamps}
use Rattle.sym_int.proofs.span.Span.meet.Goals as goal

pub returns-then-lo-hi : goal.returns-then-lo-hi
returns-then-lo-hi c = λ x.
    (λ h. ((omega (arith, ints, clamps), omega (arith, ints, clamps)), (omega (arith, ints, clamps), omega (arith, ints, clamps))), λ h. (omega (arith, ints, clamps), omega (arith, ints, clamps)))

pub returns-else-lo-hi : goal.returns-else-lo-hi
returns-else-lo-hi c = λ x h. omega (arith, ints, clamps)
