use Rattle.std.proofs.Common.{◌≡◌, Some, length, refl, arith}
use Rattle.std.proofs.lemmas.Option.{slice_get_read}
use Rattle.std.specs.Prelude.{slice_get}
use Rattle.sym_check.specs.Plan.ScriptPlans.{script_plan}
use Rattle.sym_path.specs.Checking.{FitsForm}
use Rattle.sym_path.proofs.Checks.{other_lengths, one_fails, all_hold}
use Rattle.sym_path.proofs.Lists.{below_next}
use Rattle.sym_path.proofs.fits.forms_fit.Goals as goal

pub returns-then-cells-items : goal.returns-then-cells-items
returns-then-cells-items c = other_lengths (FitsForm (script_plan c.args.plan.now) c.args.when.now) c.args.plan.now.cells c.args.forms.now c.as_slice-cells.result.now c.as_slice-items.result.now c.as_slice-cells.ensures c.as_slice-items.ensures c.if-cells-items.true

pub returns-then-not-form_fits : goal.returns-then-not-form_fits
returns-then-not-form_fits c =
    let xs = c.as_slice-cells.result.now in
    let ys = c.as_slice-items.result.now in
    let x = c.index-cells-index.result in
    let y = c.index-items-index.result in
    let first : slice_get xs c.cells.index ≡ Some x = slice_get_read xs (length xs) c.cells.index x refl c.cells-test.true c.index-cells-index.is in
    let second : slice_get ys c.cells.index ≡ Some y = slice_get_read ys (length xs) c.cells.index y c.cells.invariant.0 c.cells-test.true c.index-items-index.is in
    one_fails (FitsForm (script_plan c.args.plan.now) c.args.when.now) c.args.plan.now.cells c.args.forms.now xs ys c.as_slice-cells.ensures c.as_slice-items.ensures c.cells.index x y c.form_fits.result first second c.if-not-form_fits.true c.form_fits.ensures

pub cells-preserved : goal.cells-preserved
cells-preserved c =
    let xs = c.as_slice-cells.result.now in
    let ys = c.as_slice-items.result.now in
    let x = c.index-cells-index.result in
    let y = c.index-items-index.result in
    let first : slice_get xs c.cells.index ≡ Some x = slice_get_read xs (length xs) c.cells.index x refl c.cells-test.true c.index-cells-index.is in
    let second : slice_get ys c.cells.index ≡ Some y = slice_get_read ys (length xs) c.cells.index y c.cells.invariant.0 c.cells-test.true c.index-items-index.is in
    (c.cells.invariant.0, below_next (FitsForm (script_plan c.args.plan.now) c.args.when.now) xs ys c.cells.index x y first second (c.form_fits.ensures.0 c.if-not-form_fits.false) c.cells.invariant.1)

pub returns : goal.returns
returns c = all_hold (FitsForm (script_plan c.args.plan.now) c.args.when.now) c.args.plan.now.cells c.args.forms.now c.as_slice-cells.result.now c.as_slice-items.result.now c.as_slice-cells.ensures c.as_slice-items.ensures c.cells.index c.cells.invariant.0 (omega arith) c.cells.invariant.1
