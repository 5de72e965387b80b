use Rattle.std.proofs.Common.{◌≡◌, ◌∙◌, Some, ap, sym}
use Rattle.sym_check.specs.Plan.ScriptPlans.{ScriptPlan, script_plan}
use Rattle.sym_int.specs.declared.form.IntForm.TheVariants as number
use Rattle.sym_int.specs.declared.form.Number.{Number}
use Rattle.sym_explore.specs.Terms.{int_form}
use Rattle.sym_explore.proofs.ComparedPaths.{stored_number}
use Rattle.sym_explore.proofs.SurePaths.{number_after, sure_number}
use Rattle.sym_explore.proofs.sure.number_on.Goals as goal

pub unreachable-requires : goal.unreachable-requires
unreachable-requires c =
    let p : ScriptPlan = script_plan c.args._plan.now in
    let (n, own) = sure_number p c.args.path.now c.requires.sure c.args.cell c.requires.cell in
    let got : c.number_form.result ≡ Some (number.Const n) = c.number_form.ensures ∙ ap int_form own in
    cc

pub unreachable-requires-in-None : goal.unreachable-requires-in-None
unreachable-requires-in-None c =
    let p : ScriptPlan = script_plan c.args._plan.now in
    let (n, own) = sure_number p c.args.path.now c.requires.sure c.args.cell c.requires.cell in
    let got : c.number_form.result ≡ Some (number.Const n) = c.number_form.ensures ∙ ap int_form own in
    cc

pub returns-clause-value : goal.returns-clause-value
returns-clause-value c = λ s later e.
    let p : ScriptPlan = script_plan c.args._plan.now in
    let (n, own) = sure_number p c.args.path.now c.requires.sure c.args.cell c.requires.cell in
    let got : c.number_form.result ≡ Some (number.Const n) = c.number_form.ensures ∙ ap int_form own in
    let same : n ≡ c.in-Some-Const.number = cc in
    number_after p c.args.path.now c.requires.sure c.args.cell n c.requires.cell own s later e ∙ ap (λ (m : Number). m.value) same ∙ sym (stored_number c.in-Some-Const.number.value c.in-Some-Const.number.value_in)
