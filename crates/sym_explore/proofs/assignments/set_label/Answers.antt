use Rattle.std.proofs.Common.{◌∙◌, sym, ap, subst}
use Rattle.sym_check.specs.Meaning.Conditions.{test_truth}
use Rattle.sym_check.specs.Plan.ScriptPlans.{script_plan}
use Rattle.sym_enum.specs.declared.form.EnumForm.TheVariants as label
use Rattle.sym_path.proofs.Changed.{forms_give}
use Rattle.sym_path.specs.declared.form.Form.TheVariants as form
use Rattle.sym_path.specs.declared.path.Path.{Path}
use Rattle.sym_path.specs.Fitting.{PathFits}
use Rattle.sym_path.specs.Giving.{given}
use Rattle.sym_explore.proofs.AssignedFits.{label_set}
use Rattle.sym_explore.proofs.SureSteps.{form_sure}
use Rattle.sym_explore.specs.Sure.{IsSureEnd}
use Rattle.sym_explore.proofs.assignments.set_label.Goals as goal

pub returns-clause-exact : goal.returns-clause-exact
returns-clause-exact c = λ s.
    let truth = test_truth (script_plan c.args._plan.now).tests in
    ap (λ (q : Path). given truth q s) c.put_label.ensures ∙ forms_give truth s c.args.path.now c.args.cell (form.Enum (label.Const c.args.label))

pub returns-clause-fits : goal.returns-clause-fits
returns-clause-fits c =
    let p = script_plan c.args._plan.now in
    subst (λ (q : Path). PathFits p q) (sym c.put_label.ensures) (label_set p c.args.path.now c.args.cell c.args.label c.requires.fits c.requires.cell)

pub returns-clause-sure : goal.returns-clause-sure
returns-clause-sure c = λ sure.
    subst (λ (q : Path). IsSureEnd q.end) (sym c.put_label.ensures) (form_sure c.args.cell (form.Enum (label.Const c.args.label)) c.args.path.now.end tt sure)
