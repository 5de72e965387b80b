use Rattle.std.proofs.Common.{◌≡◌, Some, length, take, refl, sym, subst}
use Rattle.std.proofs.lemmas.Option.{slice_get_read}
use Rattle.std.specs.Prelude.{slice_get}
use Rattle.sym_path.specs.FormsAfter.{IsSpanOf}
use Rattle.sym_path.proofs.Lists.{zip_push}
use Rattle.sym_path.proofs.succession.spans_of.Goals as goal

pub cells-preserved : goal.cells-preserved
cells-preserved c =
    let xs = c.args.parts.now in
    let x : slice_get xs c.cells.index ≡ Some c.index-parts-index.result = slice_get_read xs (length xs) c.cells.index c.index-parts-index.result refl c.cells-test.true c.index-parts-index.is in
    zip_push IsSpanOf xs c.cells.spans.items _ c.cells.index c.index-parts-index.result c.span_of.result x c.in_ok-push.ensures.items c.span_of.ensures c.cells.invariant
