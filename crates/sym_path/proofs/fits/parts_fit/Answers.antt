use Rattle.std.proofs.Common.{◌≡◌, Some, length, refl, arith}
use Rattle.std.proofs.lemmas.Option.{slice_get_read}
use Rattle.std.specs.Prelude.{slice_get}
use Rattle.sym_check.specs.Plan.ScriptPlans.{script_plan}
use Rattle.sym_path.specs.Checking.{FitsPart}
use Rattle.sym_path.proofs.Checks.{other_lengths, one_fails, all_hold}
use Rattle.sym_path.proofs.Lists.{below_next}
use Rattle.sym_path.proofs.fits.parts_fit.Goals as goal

pub returns-then-cells-parts : goal.returns-then-cells-parts
returns-then-cells-parts c = other_lengths (FitsPart (script_plan c.args.plan.now)) c.args.plan.now.cells c.args.when.now c.as_slice-cells.result.now c.as_slice-parts.result.now c.as_slice-cells.ensures c.as_slice-parts.ensures c.if-cells-parts.true

pub returns-then-not-part_fits : goal.returns-then-not-part_fits
returns-then-not-part_fits c =
    let xs = c.as_slice-cells.result.now in
    let ys = c.as_slice-parts.result.now in
    let x = c.index-cells-index.result in
    let y = c.index-parts-index.result in
    let first : slice_get xs c.cells.index ≡ Some x = slice_get_read xs (length xs) c.cells.index x refl c.cells-test.true c.index-cells-index.is in
    let second : slice_get ys c.cells.index ≡ Some y = slice_get_read ys (length xs) c.cells.index y c.cells.invariant.0 c.cells-test.true c.index-parts-index.is in
    one_fails (FitsPart (script_plan c.args.plan.now)) c.args.plan.now.cells c.args.when.now xs ys c.as_slice-cells.ensures c.as_slice-parts.ensures c.cells.index x y c.part_fits.result first second c.if-not-part_fits.true c.part_fits.ensures

pub cells-preserved : goal.cells-preserved
cells-preserved c =
    let xs = c.as_slice-cells.result.now in
    let ys = c.as_slice-parts.result.now in
    let x = c.index-cells-index.result in
    let y = c.index-parts-index.result in
    let first : slice_get xs c.cells.index ≡ Some x = slice_get_read xs (length xs) c.cells.index x refl c.cells-test.true c.index-cells-index.is in
    let second : slice_get ys c.cells.index ≡ Some y = slice_get_read ys (length xs) c.cells.index y c.cells.invariant.0 c.cells-test.true c.index-parts-index.is in
    (c.cells.invariant.0, below_next (FitsPart (script_plan c.args.plan.now)) xs ys c.cells.index x y first second (c.part_fits.ensures.0 c.if-not-part_fits.false) c.cells.invariant.1)

pub returns : goal.returns
returns c = all_hold (FitsPart (script_plan c.args.plan.now)) c.args.plan.now.cells c.args.when.now c.as_slice-cells.result.now c.as_slice-parts.result.now c.as_slice-cells.ensures c.as_slice-parts.ensures c.cells.index c.cells.invariant.0 (omega arith) c.cells.invariant.1
