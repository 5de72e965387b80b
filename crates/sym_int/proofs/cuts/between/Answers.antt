use Rattle.std.proofs.Common.{arith}
use Rattle.std.proofs.lemmas.Int.{ints}
use Rattle.sym_int.proofs.Unions.{same_part}
use Rattle.sym_int.proofs.cuts.between.Goals as goal

pub returns-in-Some : goal.returns-in-Some
returns-in-Some c =
    let r = rw c.in-Some.is at c.sides.ensures.above in
    same_part _ _ c.sides-in-Some.result.0
    (λ x. (λ h. let p = (r x).0 h.0 in (p.0, (omega (arith, ints, p.1), omega (arith, ints))), λ h. ((r x).1 (h.0, omega (arith, ints)), omega (arith, ints))))
    c.sides-in-Some.ensures.at_most
