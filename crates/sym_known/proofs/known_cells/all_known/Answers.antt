use Rattle.std.proofs.Common.{◌≡◌, List, Some, length, refl, sym, subst, take, All}
use Rattle.std.proofs.lemmas.List.{take_all}
use Rattle.std.proofs.lemmas.List.Elements.{All-push}
use Rattle.std.proofs.lemmas.Option.{slice_get_read}
use Rattle.std.specs.Prelude.{slice_get}
use Rattle.sym_path.specs.declared.form.Form.{Form}
use Rattle.sym_path.proofs.Lists.{all_at, take_get}
use Rattle.sym_known.specs.Knowing.{IsKnown}
use Rattle.sym_known.proofs.known_cells.all_known.Goals as goal

pub cells-preserved : goal.cells-preserved
cells-preserved c =
    let forms : List Form = c.args.forms.now in
    let at : slice_get forms c.cells.form-index ≡ Some c.form-item.result = slice_get_read forms (length forms) c.cells.form-index c.form-item.result refl c.cells-test.true c.form-item.is in
    subst (λ (fs : List Form). All IsKnown fs) (sym (take_get forms c.cells.form-index c.form-item.result at))
    (All-push IsKnown (take c.cells.form-index forms) c.form-item.result c.cells.invariant (c.is_known.ensures.0 c.if-not-is_known.false))

pub returns-then-not-is_known : goal.returns-then-not-is_known
returns-then-not-is_known c =
    let forms : List Form = c.args.forms.now in
    let at : slice_get forms c.cells.form-index ≡ Some c.form-item.result = slice_get_read forms (length forms) c.cells.form-index c.form-item.result refl c.cells-test.true c.form-item.is in
    (λ e. absurd (cc), λ all. let known = c.is_known.ensures.1 (all_at IsKnown forms c.cells.form-index c.form-item.result all at) in let none = c.if-not-is_known.true in cc)

pub returns : goal.returns
returns c = (λ e. subst (λ (fs : List Form). All IsKnown fs) (take_all c.cells.form-index c.args.forms.now c.cells-test.false) c.cells.invariant, λ all. refl)
