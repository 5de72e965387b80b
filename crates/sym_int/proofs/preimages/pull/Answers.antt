use Rattle.std.proofs.Common.{arith}
use Rattle.std.proofs.lemmas.Int.{ints}
use Rattle.sym_int.proofs.preimages.pull.Goals as goal

pub returns-in-Some-clause-exact : goal.returns-in-Some-clause-exact
returns-in-Some-clause-exact c = λ x n.
    let e = c.widened.ensures x in
    let b = c.in-Some.ensures x in
    rw c.in-Line.is
    (λ h. let p = b.0 h in (omega (arith, ints, e, p.1), omega (arith, ints, e, p.1)), λ h. b.1 ((omega (arith, ints), omega (arith, ints)), (omega (arith, ints, e), omega (arith, ints, e))))
