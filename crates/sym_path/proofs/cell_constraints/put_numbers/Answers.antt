use Rattle.std.proofs.Common.{◌≡◌, ◌<◌, ℤ, length, get_or, subst, sym, arith, to_z, of_z, w64}
use Rattle.std.proofs.lemmas.Int.{to_z-of_z}
use Rattle.std.specs.List.{AllZip}
use Rattle.sym_path.specs.Narrowing.{CanPutNumber, NumberIsPut}
use Rattle.sym_path.specs.declared.form.Form.{Form}
use Rattle.sym_vector.proofs.Changes.{Changed-length, Changed-here, Changed-next, Changed-whole}
use Rattle.sym_path.proofs.cell_constraints.put_numbers.Goals as goal

pub put_number-requires : goal.put_number-requires
put_number-requires c =
    let v : ℤ = to_z w64 (of_z w64 c.args.value) in
    let number : v ≡ c.args.value = to_z-of_z w64 c.args.value c.ranges.value in
    let R : Form → Form → Type 0 = NumberIsPut c.args.cell v in
    let below : c.forms.form-index < length c.args.forms.now = omega (arith, Changed-length R _ _ c.forms.form-index c.forms.invariant) in
    subst (λ (n : ℤ). CanPutNumber c.args.cell n (get_or c.forms.forms c.forms.form-index c.form-item.result)) (sym number)
    (subst (λ (f : Form). CanPutNumber c.args.cell c.args.value f) (sym (Changed-here R _ _ c.forms.form-index c.form-item.result c.forms.invariant)) (c.requires c.forms.form-index c.form-item.result below))

pub forms-preserved : goal.forms-preserved
forms-preserved c =
    let R : Form → Form → Type 0 = NumberIsPut c.args.cell (to_z w64 (of_z w64 c.args.value)) in
    let below : c.forms.form-index < length c.forms.forms = omega (arith, Changed-length R _ _ c.forms.form-index c.forms.invariant) in
    Changed-next R _ _ c.forms.form-index c.form-item.result c.put_number.new.self below c.put_number.ensures c.forms.invariant

pub returns : goal.returns
returns c =
    let v : ℤ = to_z w64 (of_z w64 c.args.value) in
    let number : v ≡ c.args.value = to_z-of_z w64 c.args.value c.ranges.value in
    subst (λ (n : ℤ). AllZip (NumberIsPut c.args.cell n) c.args.forms.now c.forms.forms) number
    (Changed-whole (NumberIsPut c.args.cell v) _ _ c.forms.form-index c.forms-test.false c.forms.invariant)
