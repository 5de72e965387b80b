use Rattle.std.proofs.Common.{◌≡◌, ◌∙◌, List, Result, Err, map, ap, subst}
use Rattle.std.proofs.lemmas.Result.{on_ok_weaker}
use Rattle.sym_check.specs.Checking.KnownValues.{known_values}
use Rattle.sym_check.specs.Meaning.FixedValues.{Environment, fixed_values}
use Rattle.sym_check.specs.Meaning.Updates.{or_fault}
use Rattle.sym_check.specs.Plan.FixedPlans.{FixedPlan, fixed_plan}
use Rattle.sym_check.specs.Plan.ScriptPlans.{ScriptPlan, script_plan}
use Rattle.sym_plain.specs.Running.{Makes}
use Rattle.sym_plain.specs.declared.update.stop.Stop.{Stop}
use Rattle.sym_plain.specs.declared.update.stop.Stop.TheVariants as stop
use Rattle.sym_explore.proofs.SureSteps.{keep_failing, kept_stepped}
use Rattle.sym_explore.proofs.known_paths.keep_in.Goals as goal

pub returns-in-Ok : goal.returns-in-Ok
returns-in-Ok c =
    let p : ScriptPlan = script_plan c.args.context.now.plan.now in
    let k : Environment = known_values c.args.context.now.known.now in
    let es : List FixedPlan = map fixed_plan c.args.values.now in
    on_ok_weaker c.put_parts.result
    (λ e. kept_stepped p k c.args.context.now.no c.args.path.now c.requires.sure c.args.cell es c.set_values.new.values c.put_parts.new.path c.requires.well c.in-Ok.ensures e)
    c.put_parts.ensures

pub returns-in-Err-Fault : goal.returns-in-Err-Fault
returns-in-Err-Fault c =
    let p : ScriptPlan = script_plan c.args.context.now.plan.now in
    let k : Environment = known_values c.args.context.now.known.now in
    let es : List FixedPlan = map fixed_plan c.args.values.now in
    let is : c.set_values.result ≡ Err (stop.Fault c.in-Err-Fault.field-0-0) = c.in-Err-Fault.is ∙ ap Err c.in-Err-Fault.field-0-is in
    let fails : or_fault (fixed_values k es) ≡ Err c.in-Err-Fault.field-0-0 = subst (λ (r : Result Unit Stop). Makes r c.set_values.new.values (or_fault (fixed_values k es))) is c.set_values.ensures in
    keep_failing p k c.args.context.now.no c.args.path.now c.fail.new.self c.requires.sure c.args.cell es c.in-Err-Fault.field-0-0 c.arith.result fails c.fail.ensures c.arith.ensures.kind c.arith.ensures.no
