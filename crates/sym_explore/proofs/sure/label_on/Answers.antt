use Rattle.std.proofs.Common.{◌≡◌, ◌∙◌, Some, ap}
use Rattle.sym_check.specs.Plan.ScriptPlans.{ScriptPlan, script_plan}
use Rattle.sym_enum.specs.declared.form.EnumForm.TheVariants as label
use Rattle.sym_explore.specs.Labels.{enum_form}
use Rattle.sym_explore.proofs.SurePaths.{label_after, sure_label}
use Rattle.sym_explore.proofs.sure.label_on.Goals as goal

pub unreachable-requires : goal.unreachable-requires
unreachable-requires c =
    let p : ScriptPlan = script_plan c.args._plan.now in
    let (l, own) = sure_label p c.args.path.now c.requires.sure c.args.cell c.requires.cell.0 c.requires.cell.1 in
    let got : c.label_form.result ≡ Some (label.Const l) = c.label_form.ensures ∙ ap enum_form own in
    cc

pub unreachable-requires-in-None : goal.unreachable-requires-in-None
unreachable-requires-in-None c =
    let p : ScriptPlan = script_plan c.args._plan.now in
    let (l, own) = sure_label p c.args.path.now c.requires.sure c.args.cell c.requires.cell.0 c.requires.cell.1 in
    let got : c.label_form.result ≡ Some (label.Const l) = c.label_form.ensures ∙ ap enum_form own in
    cc

pub returns : goal.returns
returns c = λ s later e.
    let p : ScriptPlan = script_plan c.args._plan.now in
    let (l, own) = sure_label p c.args.path.now c.requires.sure c.args.cell c.requires.cell.0 c.requires.cell.1 in
    let got : c.label_form.result ≡ Some (label.Const l) = c.label_form.ensures ∙ ap enum_form own in
    let same : l ≡ c.in-Some-Const.label = cc in
    label_after p c.args.path.now c.requires.sure c.args.cell c.requires.cell.0 l c.requires.cell.1 own s later e ∙ same
