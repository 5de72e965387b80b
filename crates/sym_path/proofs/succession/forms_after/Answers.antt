use Rattle.std.proofs.Common.{◌≡◌, Some, length, refl}
use Rattle.std.proofs.lemmas.Option.{slice_get_read}
use Rattle.std.specs.Prelude.{slice_get}
use Rattle.sym_path.specs.FormsAfter.{FormAfter}
use Rattle.sym_path.proofs.FollowingSteps.{push_next, push_length, can_come_now, after_start, kept_next}
use Rattle.sym_path.proofs.succession.forms_after.Goals as goal

pub form_after-requires-clause-can : goal.form_after-requires-clause-can
form_after-requires-clause-can c =
    let others = c.args.others.now in
    let x = c.index-others-index.result in
    let at : slice_get others c.cells.index ≡ Some x = slice_get_read others (length others) c.cells.index x refl c.cells-test.true c.index-others-index.is in
    can_come_now others c.args.forms c.cells.forms c.cells.index c.cells.invariant.2 c.args.lefts.now c.args.context.now x at (c.requires c.cells.index x at)

pub cells-preserved : goal.cells-preserved
cells-preserved c =
    let others = c.args.others.now in
    let x = c.index-others-index.result in
    let y = c.in_ok-form.form in
    let items = c.cells.after.items in
    let at : slice_get others c.cells.index ≡ Some x = slice_get_read others (length others) c.cells.index x refl c.cells-test.true c.index-others-index.is in
    let here : FormAfter c.args.forms c.args.lefts.now c.args.context.now c.cells.index x y = after_start others c.args.forms c.cells.forms c.cells.index c.cells.invariant.2 c.args.lefts.now c.args.context.now x y at (c.requires c.cells.index x at) c.in_ok-form.ensures.form in (
      push_length items c.push.new.self.items c.cells.index y c.in_ok-push.ensures.items c.cells.invariant.0,
      push_next (λ k g r. FormAfter c.args.forms c.args.lefts.now c.args.context.now k g r) others items c.push.new.self.items c.cells.index x y at here c.in_ok-push.ensures.items c.cells.invariant.0 c.cells.invariant.1,
      kept_next others c.args.forms c.cells.forms c.cells.index c.cells.invariant.2 c.form_after.new.forms c.form_after.ensures.others,
    )
