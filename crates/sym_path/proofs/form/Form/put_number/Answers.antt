use Rattle.std.proofs.Common.{◌≡◌, ℤ, subst, to_z, of_z, w64}
use Rattle.std.proofs.lemmas.Int.{to_z-of_z}
use Rattle.std.specs.List.{AllZip}
use Rattle.sym_int.specs.Elements.{IsFixedTo}
use Rattle.sym_path.proofs.form.Form.put_number.Goals as goal

pub returns-in-Nums : goal.returns-in-Nums
returns-in-Nums c =
    let v : ℤ = to_z w64 (of_z w64 c.args.value) in
    let number : v ≡ c.args.value = to_z-of_z w64 c.args.value c.ranges.value in
    rw c.in-Nums.is (subst (λ (n : ℤ). AllZip (λ old new. IsFixedTo old c.args.cell n new) c.in-Nums.added c.fix-in-Nums.new.self) number c.fix-in-Nums.ensures.elements)
