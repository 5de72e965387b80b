use Rattle.std.proofs.Common.{arith}
use Rattle.std.proofs.lemmas.Int.{ints}
use Rattle.sym_int.proofs.fits.taken_inside.Goals as goal

pub taken-form-requires : goal.taken-form-requires
taken-form-requires c = λ x h.
    let w = rw c.in-Some.is at c.requires in
    let p = w x h in
    omega (arith, ints, p)
