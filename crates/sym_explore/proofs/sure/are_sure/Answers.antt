use Rattle.std.proofs.Common.{◌≡◌, List, Some, length, refl, sym, subst, take, All}
use Rattle.std.proofs.lemmas.List.{take_all}
use Rattle.std.proofs.lemmas.List.Elements.{All-push}
use Rattle.std.proofs.lemmas.Option.{slice_get_read}
use Rattle.std.specs.Prelude.{slice_get}
use Rattle.sym_path.specs.declared.form.Form.{Form}
use Rattle.sym_path.proofs.Lists.{take_get}
use Rattle.sym_explore.specs.Sure.{IsSure}
use Rattle.sym_explore.proofs.sure.are_sure.Goals as goal

pub cells-preserved : goal.cells-preserved
cells-preserved c =
    let forms : List Form = c.args.forms.now in
    let at : slice_get forms c.cells.form-index ≡ Some c.form-item.result = slice_get_read forms (length forms) c.cells.form-index c.form-item.result refl c.cells-test.true c.form-item.is in
    subst (λ (fs : List Form). All IsSure fs) (sym (take_get forms c.cells.form-index c.form-item.result at))
    (All-push IsSure (take c.cells.form-index forms) c.form-item.result c.cells.invariant (c.is_sure.ensures c.if-not-is_sure.false))

pub returns : goal.returns
returns c = λ e.
    subst (λ (fs : List Form). All IsSure fs) (take_all c.cells.form-index c.args.forms.now c.cells-test.false) c.cells.invariant
