use Rattle.std.proofs.Common.{arith, ◌≡◌, to_z, of_z, to_z-of_z}
use Rattle.std.proofs.lemmas.Int.{ints}
use Rattle.std.specs.Int.{int_div_euclid}
use Rattle.sym_int.proofs.Quotients.{quotient_exact}
use Rattle.sym_int.proofs.quotient.floor_quotient.Goals as goal
use mir.Syntax.{w128}

pub returns-clause-exact : goal.returns-clause-exact
returns-clause-exact c = λ x.
    let n : to_z w128 (of_z w128 c.args.n) ≡ c.args.n = to_z-of_z c.ranges.n in
    let d : to_z w128 (of_z w128 c.args.d) ≡ c.args.d = to_z-of_z c.ranges.d in
    let e : c.div_euclid.result ≡ int_div_euclid c.args.n c.args.d = rw (n, d) at c.div_euclid.ensures in
    let shown : to_z w128 (of_z w128 c.div_euclid.result) ≡ c.div_euclid.result = omega (arith, ints) in
    rw (shown, e) (quotient_exact c.args.n c.args.d x c.requires.d_in)
