use Rattle.std.proofs.Common.{◌≡◌, ◌∙◌, Some, refl, sym, ap, subst}
use Rattle.sym_base.specs.declared.values.state.Cell.TheVariants as one
use Rattle.sym_base.specs.States.{label_at, with_cell}
use Rattle.sym_check.specs.Meaning.Conditions.{test_truth}
use Rattle.sym_check.specs.Plan.ScriptPlans.{script_plan}
use Rattle.sym_path.specs.declared.form.Form.TheVariants as form
use Rattle.sym_path.specs.declared.path.Path.{Path}
use Rattle.sym_path.specs.Changing.{changed, form_of}
use Rattle.sym_path.specs.Fitting.{PathFits}
use Rattle.sym_path.specs.Giving.{given}
use Rattle.sym_explore.proofs.AssignedForms.{label_copied, label_form_is}
use Rattle.sym_explore.proofs.AssignedFits.{label_copy_fits}
use Rattle.sym_explore.proofs.AssignedNowhere.{ended_stays, no_label}
use Rattle.sym_explore.proofs.SureSteps.{form_sure}
use Rattle.sym_explore.specs.Sure.{IsSureEnd}
use Rattle.sym_explore.proofs.assignments.copy_label.Goals as goal

pub returns-in-Some-clause-exact : goal.returns-in-Some-clause-exact
returns-in-Some-clause-exact c = λ s.
    let p = script_plan c.args._plan.now in
    let truth = test_truth p.tests in
    let path : Path = c.args.path.now in
    let at : form_of path.end c.args.from ≡ Some (form.Enum c.in-Some.form) = label_form_is path c.args.from c.in-Some.form (sym c.in-Some.ensures) in
    ap (λ (q : Path). given truth q s) c.put_label.ensures ∙ label_copied truth p path s c.args.cell c.args.from c.in-Some.form c.requires.fits c.requires.cells at

pub returns-in-Some-clause-fits : goal.returns-in-Some-clause-fits
returns-in-Some-clause-fits c =
    let p = script_plan c.args._plan.now in
    let path : Path = c.args.path.now in
    let at : form_of path.end c.args.from ≡ Some (form.Enum c.in-Some.form) = label_form_is path c.args.from c.in-Some.form (sym c.in-Some.ensures) in
    subst (λ (q : Path). PathFits p q) (sym c.put_label.ensures) (label_copy_fits p path c.args.cell c.args.from c.in-Some.form c.requires.fits c.requires.cells at)

pub returns-in_default-clause-exact : goal.returns-in_default-clause-exact
returns-in_default-clause-exact c =
    let p = script_plan c.args._plan.now in
    let path : Path = c.args.path.now in
    ended_stays p (changed (λ t. with_cell t c.args.cell (one.Enum (label_at t c.args.from)))) path (λ fault. refl) (no_label p path c.args.cell c.args.from c.requires.fits c.requires.cells (sym c.label_form.ensures ∙ c.in_default.is))

pub returns-in-Some-clause-sure : goal.returns-in-Some-clause-sure
returns-in-Some-clause-sure c = λ sure.
    let path : Path = c.args.path.now in
    let at : form_of path.end c.args.from ≡ Some (form.Enum c.in-Some.form) = label_form_is path c.args.from c.in-Some.form (sym c.in-Some.ensures) in
    subst (λ (q : Path). IsSureEnd q.end) (sym c.put_label.ensures) (form_sure c.args.cell (form.Enum c.in-Some.form) path.end (sure c.args.from (form.Enum c.in-Some.form) at) sure)
