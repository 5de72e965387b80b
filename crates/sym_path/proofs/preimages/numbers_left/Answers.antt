use Rattle.std.proofs.Common.{◌≡◌, refl, length, Some}
use Rattle.std.proofs.lemmas.Option.{slice_get_read}
use Rattle.std.specs.Prelude.{slice_get}
use Rattle.sym_path.specs.Pulling.{number_passes}
use Rattle.sym_path.proofs.Pulled.{zip_all_drop, numbers_next}
use Rattle.sym_path.proofs.preimages.numbers_left.Goals as goal

pub cells-preserved : goal.cells-preserved
cells-preserved c =
    let forms = c.args.forms.now in
    let needs = c.args.needs.now in
    let f : slice_get forms c.cells.index ≡ Some c.index-forms-index.result = slice_get_read forms (length forms) c.cells.index c.index-forms-index.result refl c.cells-test.true c.index-forms-index.is in
    let n : slice_get needs c.cells.index ≡ Some c.index-needs-index.result = slice_get_read needs (length forms) c.cells.index c.index-needs-index.result c.requires c.cells-test.true c.index-needs-index.is in
    (c.requires, λ x. numbers_next c.cells.left c.args.span.now c.in-Some.span _ _ _ _ x (c.in-Some.ensures x) (zip_all_drop (number_passes c.args.cell x) forms needs c.cells.index c.index-forms-index.result c.index-needs-index.result f n) (c.cells.invariant.1 x))
