use Rattle.std.proofs.Common.{◌≡◌, ◌++◌, ◌∙◌, List, Result, Err, map, ap, subst, sym}
use Rattle.sym_base.specs.declared.values.state.FaultKind.{FaultKind}
use Rattle.sym_check.specs.Meaning.Fitting.{FitsFault}
use Rattle.sym_check.specs.Plan.FixedPlans.{FixedPlan, fixed_plan}
use Rattle.sym_check.specs.Meaning.FixedValues.{Environment, fixed_values}
use Rattle.sym_check.specs.Checking.KnownValues.{known_values}
use Rattle.sym_check.specs.Plan.ScriptPlans.{ScriptPlan, script_plan}
use Rattle.sym_check.specs.Meaning.Updates.{or_fault}
use Rattle.sym_plain.specs.Running.{Makes}
use Rattle.sym_plain.specs.declared.update.stop.Stop.{Stop}
use Rattle.sym_plain.specs.declared.update.stop.Stop.TheVariants as stop
use Rattle.sym_explore.specs.Running.{failed_paths}
use Rattle.sym_explore.proofs.AssignedLists.{failed_run, kept_run, on_ok, on_ok_both, values_fail, values_failed}
use Rattle.sym_explore.proofs.assignments.keep_on.Goals as goal

pub returns-in-Ok : goal.returns-in-Ok
returns-in-Ok c =
    let p : ScriptPlan = script_plan c.args.context.now.plan.now in
    let k : Environment = known_values c.args.context.now.known.now in
    let es : List FixedPlan = map fixed_plan c.args.values.now in
    on_ok c.keep_all.result
    (λ e. kept_run p k c.args.context.now.no c.args.cell es c.set_values.new.values c.requires.well c.in-Ok.ensures c.args.lists.now.paths.items c.keep_all.new.paths.items c.args.lists.now.ended.items e c.requires.paths.fits c.requires.paths.going c.requires.paths.ended_fit)
    c.keep_all.ensures

pub returns-in-Err-Fault : goal.returns-in-Err-Fault
returns-in-Err-Fault c =
    let p : ScriptPlan = script_plan c.args.context.now.plan.now in
    let k : Environment = known_values c.args.context.now.known.now in
    let es : List FixedPlan = map fixed_plan c.args.values.now in
    let kind = c.in-Err-Fault.kind in
    let old = c.args.lists.now.paths.items in
    let new = c.fail_all.new.paths.items in
    let before = c.args.lists.now.ended.items in
    let after = c.fail_all.new.ended.items in
    let is : c.set_values.result ≡ Err (stop.Fault kind) = c.in-Err-Fault.is ∙ ap Err c.in-Err-Fault.field-0-is in
    let fails : or_fault (fixed_values k es) ≡ Err kind = subst (λ (r : Result Unit Stop). Makes r c.set_values.new.values (or_fault (fixed_values k es))) is c.set_values.ensures in
    let fits : FitsFault p kind = subst (FitsFault p) (sym (values_fail (fixed_values k es) kind fails)) tt in
    on_ok_both c.fail_all.result c.fail_all.ensures.paths c.fail_all.ensures.ended
    (λ e f. values_failed p k c.args.context.now.no c.args.cell es kind old new before after fails
    (failed_run p (record { kind = kind; no = c.args.context.now.no }) old new before after e
    (f ∙ ap (λ (x : FaultKind). before ++ failed_paths (record { kind = x; no = c.args.context.now.no }) old) c.in-Err-Fault.kind-is)
    fits c.requires.paths.fits c.requires.paths.going c.requires.paths.ended_fit))
