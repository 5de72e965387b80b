use Rattle.std.proofs.Common.{◌≡◌, ℤ, subst, to_z, of_z, w64}
use Rattle.std.proofs.lemmas.Int.{to_z-of_z}
use Rattle.std.specs.List.{AllZip}
use Rattle.sym_path.specs.Narrowing.{NumberIsPut}
use Rattle.sym_path.proofs.path.PathEnd.with_number.Goals as goal

pub returns-in-Next : goal.returns-in-Next
returns-in-Next c =
    let number : to_z w64 (of_z w64 c.args.value) ≡ c.args.value = to_z-of_z w64 c.args.value c.ranges.value in
    rw c.in-Next.is (subst (λ (n : ℤ). AllZip (NumberIsPut c.args.cell n) c.in-Next.forms c.numbers_put.result) number c.numbers_put.ensures)
