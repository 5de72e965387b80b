use Rattle.std.proofs.Common.{◌≡◌, ℤ, ◌≤ℤ◌, inl, inr, subst, arith, rules, to_z, of_z, w64}
use mir.Val.{SFits}
use Rattle.std.proofs.lemmas.Int.{ints, to_z-of_z}
use Rattle.std.specs.List.{AllZip}
use Rattle.sym_path.specs.Narrowing.{NumberIsPut}
use Rattle.sym_path.proofs.succession.put_left.Goals as goal

pub returns-else-span : goal.returns-else-span
returns-else-span c =
    let lo : ℤ = c.in-Span.span.lo in
    let ordered : c.in-Span.span.lo ≤ℤ c.in-Span.span.hi = c.in-Span.span.ordered in
    let one : c.in-Span.span.lo ≡ c.in-Span.span.hi = omega (arith, ints) in
    let fits : SFits w64 lo = search rules in
    let number : to_z w64 (of_z w64 lo) ≡ lo = to_z-of_z w64 lo fits in
    inr (rw c.in-Span.is (inl (one, subst (λ (n : ℤ). AllZip (NumberIsPut c.args.cell n) c.args.forms c.numbers_put.result) number c.numbers_put.ensures)))
