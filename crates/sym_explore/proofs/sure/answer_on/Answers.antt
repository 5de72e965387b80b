use Rattle.std.proofs.Common.{◌≡◌, ◌∙◌, List, Option, Some, Ok, ap, sym, subst}
use Rattle.sym_base.specs.declared.values.value.Value.{Value}
use Rattle.sym_check.specs.Meaning.Conditions.{test_truth}
use Rattle.sym_check.specs.Plan.ScriptPlans.{ScriptPlan, script_plan}
use Rattle.sym_pred.specs.declared.form.HoldForm.TheVariants as hold
use Rattle.sym_path.specs.declared.form.Form.{Form}
use Rattle.sym_path.specs.declared.form.Form.TheVariants as form
use Rattle.sym_explore.specs.Calling.{IsTested}
use Rattle.sym_explore.specs.declared.hold_tests.Tested.{Tested}
use Rattle.sym_explore.proofs.SurePaths.{parts_after, sure_parts}
use Rattle.sym_explore.proofs.sure.answer_on.Goals as goal

pub unreachable-requires : goal.unreachable-requires
unreachable-requires c =
    let p : ScriptPlan = script_plan c.args.plan.now in
    let (parts, own) = sure_parts p c.args.path.now c.requires.sure c.args.cell c.requires.suits.kinds c.requires.suits.is_hold in
    let is : IsTested p c.args.test c.args.args.now (Some (form.Hold (hold.Const parts))) c.test_on.result = subst (λ (o : Option Form). IsTested p c.args.test c.args.args.now o c.test_on.result) own c.test_on.ensures in
    subst (λ (t : Tested). IsTested p c.args.test c.args.args.now (Some (form.Hold (hold.Const parts))) t) c.in-Held.is is

pub unreachable-requires-in-Ended : goal.unreachable-requires-in-Ended
unreachable-requires-in-Ended c =
    let p : ScriptPlan = script_plan c.args.plan.now in
    let (parts, own) = sure_parts p c.args.path.now c.requires.sure c.args.cell c.requires.suits.kinds c.requires.suits.is_hold in
    let is : IsTested p c.args.test c.args.args.now (Some (form.Hold (hold.Const parts))) c.test_on.result = subst (λ (o : Option Form). IsTested p c.args.test c.args.args.now o c.test_on.result) own c.test_on.ensures in
    subst (λ (t : Tested). IsTested p c.args.test c.args.args.now (Some (form.Hold (hold.Const parts))) t) c.in-Ended.is is

pub returns : goal.returns
returns c = λ s later e.
    let p : ScriptPlan = script_plan c.args.plan.now in
    let (parts, own) = sure_parts p c.args.path.now c.requires.sure c.args.cell c.requires.suits.kinds c.requires.suits.is_hold in
    let is : IsTested p c.args.test c.args.args.now (Some (form.Hold (hold.Const parts))) c.test_on.result = subst (λ (o : Option Form). IsTested p c.args.test c.args.args.now o c.test_on.result) own c.test_on.ensures in
    let answers : c.in-Known.answer ≡ test_truth p.tests c.args.test c.args.args.now parts = subst (λ (t : Tested). IsTested p c.args.test c.args.args.now (Some (form.Hold (hold.Const parts))) t) c.in-Known.is is in
    ap (λ (ps : List Value). Ok (test_truth p.tests c.args.test c.args.args.now ps)) (parts_after p c.args.path.now c.requires.sure c.args.cell c.requires.suits.kinds parts c.requires.suits.is_hold own s later e)
    ∙ ap Ok (sym answers)
