use Rattle.std.proofs.Common.{◌≡◌, List, Some, length, drop, sym, subst}
use Rattle.std.specs.Prelude.{slice_get}
use Rattle.std.specs.List.{AllZip}
use Rattle.sym_int.specs.Elements.{GoesThroughTo}
use Rattle.sym_int.specs.declared.form.IntForm.{IntForm}
use Rattle.sym_path.specs.declared.form.Form.TheVariants as form
use Rattle.sym_path.proofs.FollowingSteps.{nums_moved, list_replaced}
use Rattle.sym_path.proofs.succession.nums_after.Goals as goal

pub returns-clause-form : goal.returns-clause-form
returns-clause-form c =
    let first = c.in-Some-Nums.first in
    let new = c.in_ok-go_through-in-Some-Nums.field-0 in
    let at : Some (form.Nums first) ≡ slice_get c.args.forms.now c.args.index = cc in
    let each : AllZip (λ f g. GoesThroughTo f c.args.context.now g) c.args.added.now (drop (length first) new) = subst (λ (fs : List IntForm). AllZip (λ f g. GoesThroughTo f c.args.context.now g) fs (drop (length first) new)) c.in_ok-copy-in-Some-Nums.ensures c.in_ok-go_through-in-Some-Nums.ensures.elements in
    nums_moved c.args.context.now first c.args.added.now new (slice_get c.args.forms.now c.args.index) at (c.in_ok-go_through-in-Some-Nums.ensures.first, each)

pub returns-clause-others : goal.returns-clause-others
returns-clause-others c =
    let at : Some (form.Nums c.in-Some-Nums.first) ≡ slice_get c.args.forms.now c.args.index = cc in
    list_replaced c.args.index c.args.forms.now c.replace.new.self c.no_form.result (form.Nums c.in-Some-Nums.first) c.replace.ensures.new at tt
