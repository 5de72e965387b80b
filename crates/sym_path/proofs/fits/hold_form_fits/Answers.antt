use Rattle.std.proofs.Common.{◌↔◌, List, sym, subst}
use Rattle.std.specs.Prelude.{IsTrue}
use Rattle.sym_base.specs.declared.values.value.Value.{Value}
use Rattle.sym_check.specs.declared.plan.script.EnumPlan.{EnumPlan}
use Rattle.sym_check.specs.Plan.ScriptPlans.{script_plan}
use Rattle.sym_check.specs.Meaning.Validity.{AreOfKinds}
use Rattle.sym_pred.specs.declared.form.HoldForm.{HoldForm}
use Rattle.sym_path.specs.Checking.{FitsHoldForm}
use Rattle.sym_path.proofs.fits.hold_form_fits.Goals as goal

pub returns-in-Const : goal.returns-in-Const
returns-in-Const c =
    let b = c.are_of_kinds.result in
    subst (λ (f : HoldForm). IsTrue b ↔ FitsHoldForm (script_plan c.args.plan.now) c.args.kinds.now f) (sym c.in-Const.is)
    (subst (λ (vs : List Value). IsTrue b ↔ AreOfKinds c.args.plan.now.enums c.args.kinds.now vs) c.as_slice-in-Const.ensures
    (subst (λ (es : List EnumPlan). IsTrue b ↔ AreOfKinds es c.args.kinds.now c.as_slice-in-Const.result.now) c.as_slice.ensures c.are_of_kinds.ensures))
