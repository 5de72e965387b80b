use Rattle.std.proofs.Common.{◌≡◌, ◌<◌, length, arith}
use Rattle.std.proofs.lemmas.Slice.Zip.{AllZip-map}
use Rattle.sym_path.specs.Narrowing.{with_label}
use Rattle.sym_path.specs.declared.form.Form.{Form}
use Rattle.sym_vector.proofs.Changes.{Changed-length, Changed-next, Changed-whole}
use Rattle.sym_path.proofs.cell_constraints.put_labels.Goals as goal

pub forms-preserved : goal.forms-preserved
forms-preserved c =
    let R : Form → Form → Type 0 = λ old new. new ≡ with_label c.args.cell c.args.label old in
    let below : c.forms.form-index < length c.forms.forms = omega (arith, Changed-length R _ _ c.forms.form-index c.forms.invariant) in
    Changed-next R _ _ c.forms.form-index c.form-item.result c.put_label.new.self below c.put_label.ensures c.forms.invariant

pub returns : goal.returns
returns c =
    let R : Form → Form → Type 0 = λ old new. new ≡ with_label c.args.cell c.args.label old in
    AllZip-map (with_label c.args.cell c.args.label) c.args.forms.now c.forms.forms (Changed-whole R _ _ c.forms.form-index c.forms-test.false c.forms.invariant)
