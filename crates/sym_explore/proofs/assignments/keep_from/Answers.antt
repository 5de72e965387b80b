use Rattle.std.proofs.Common.{◌≡◌, ◌∙◌, Some, None, refl, sym, ap, subst}
use Rattle.sym_base.specs.declared.values.state.Cell.TheVariants as one
use Rattle.sym_base.specs.States.{parts_at, with_cell}
use Rattle.sym_check.specs.Meaning.Conditions.{test_truth}
use Rattle.sym_check.specs.Plan.ScriptPlans.{script_plan}
use Rattle.sym_pred.specs.declared.form.HoldForm.{HoldForm}
use Rattle.sym_path.specs.declared.form.Form.TheVariants as form
use Rattle.sym_path.specs.declared.path.Path.{Path}
use Rattle.sym_path.specs.Changing.{changed, form_of, with_form}
use Rattle.sym_path.specs.Fitting.{PathFits}
use Rattle.sym_path.specs.Giving.{given}
use Rattle.sym_explore.specs.Assigning.{parts_form}
use Rattle.sym_explore.proofs.AssignedForms.{parts_copied, parts_form_is}
use Rattle.sym_explore.proofs.AssignedFits.{parts_copy_fits}
use Rattle.sym_explore.proofs.AssignedNowhere.{ended_stays, no_parts}
use Rattle.sym_explore.proofs.SureSteps.{form_sure}
use Rattle.sym_explore.specs.Sure.{IsSureEnd}
use Rattle.sym_explore.proofs.assignments.keep_from.Goals as goal

pub returns-in_ok-form-clause-exact : goal.returns-in_ok-form-clause-exact
returns-in_ok-form-clause-exact c = λ s.
    let p = script_plan c.args._plan.now in
    let truth = test_truth p.tests in
    let path : Path = c.args.path.now in
    let f : HoldForm = c.in-Some.form.now in
    let at : form_of path.end c.args.from ≡ Some (form.Hold f) = parts_form_is path c.args.from f (sym c.in-Some.ensures) in
    let new : c.set_form.new.self ≡ with_form path c.args.cell (form.Hold f) = c.set_form.ensures.new ∙ ap (λ (g : HoldForm). with_form path c.args.cell (form.Hold g)) c.in_ok-form.ensures in
    ap (λ (q : Path). given truth q s) new ∙ parts_copied truth p path s c.args.cell c.args.from f c.requires.fits c.requires.cells at

pub returns-in_ok-form-clause-fits : goal.returns-in_ok-form-clause-fits
returns-in_ok-form-clause-fits c =
    let p = script_plan c.args._plan.now in
    let path : Path = c.args.path.now in
    let f : HoldForm = c.in-Some.form.now in
    let at : form_of path.end c.args.from ≡ Some (form.Hold f) = parts_form_is path c.args.from f (sym c.in-Some.ensures) in
    let new : c.set_form.new.self ≡ with_form path c.args.cell (form.Hold f) = c.set_form.ensures.new ∙ ap (λ (g : HoldForm). with_form path c.args.cell (form.Hold g)) c.in_ok-form.ensures in
    subst (λ (q : Path). PathFits p q) (sym new) (parts_copy_fits p path c.args.cell c.args.from f c.requires.fits c.requires.cells at)

pub returns-in_default-clause-exact : goal.returns-in_default-clause-exact
returns-in_default-clause-exact c =
    let p = script_plan c.args._plan.now in
    let path : Path = c.args.path.now in
    let none : parts_form path c.args.from ≡ None = sym c.in_default.ensures in
    ended_stays p (changed (λ t. with_cell t c.args.cell (one.Hold (parts_at t c.args.from)))) path (λ fault. refl) (no_parts p path c.args.cell c.args.from c.requires.fits c.requires.cells none)

pub returns-in_ok-form-clause-sure : goal.returns-in_ok-form-clause-sure
returns-in_ok-form-clause-sure c = λ sure.
    let path : Path = c.args.path.now in
    let f : HoldForm = c.in-Some.form.now in
    let at : form_of path.end c.args.from ≡ Some (form.Hold f) = parts_form_is path c.args.from f (sym c.in-Some.ensures) in
    let new : c.set_form.new.self ≡ with_form path c.args.cell (form.Hold f) = c.set_form.ensures.new ∙ ap (λ (g : HoldForm). with_form path c.args.cell (form.Hold g)) c.in_ok-form.ensures in
    subst (λ (q : Path). IsSureEnd q.end) (sym new) (form_sure c.args.cell (form.Hold f) path.end (sure c.args.from (form.Hold f) at) sure)
