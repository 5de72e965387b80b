use Rattle.std.proofs.Common.{◌≡◌, Some, length, take, refl, sym, subst}
use Rattle.std.proofs.lemmas.Option.{slice_get_read}
use Rattle.std.specs.Prelude.{slice_get}
use Rattle.sym_path.specs.FormsAfter.{IsNumberOf}
use Rattle.sym_path.proofs.Lists.{zip_push}
use Rattle.sym_path.proofs.succession.numbers_of.Goals as goal

pub cells-preserved : goal.cells-preserved
cells-preserved c =
    let xs = c.args.forms.now in
    let x : slice_get xs c.cells.index ≡ Some c.index-forms-index.result = slice_get_read xs (length xs) c.cells.index c.index-forms-index.result refl c.cells-test.true c.index-forms-index.is in
    zip_push IsNumberOf xs c.cells.numbers.items _ c.cells.index c.index-forms-index.result c.number_of.result x c.in_ok-push.ensures.items c.number_of.ensures c.cells.invariant
