use Rattle.std.proofs.Common.{◌∙◌, sym}
use Rattle.sym_check.specs.Checking.KnownValues.{known_values}
use Rattle.sym_check.specs.Meaning.FixedValues.{Environment}
use Rattle.sym_check.specs.Plan.LinePlans.{TermPlan, term_plan}
use Rattle.sym_check.specs.Plan.ScriptPlans.{ScriptPlan, script_plan}
use Rattle.sym_explore.proofs.AssignedLists.{on_ok, store_place, store_term}
use Rattle.sym_explore.proofs.SureSteps.{store_failing, store_stepped}
use Rattle.sym_explore.proofs.TermForms.{ready_fits}
use Rattle.sym_explore.proofs.known_paths.store_on.Goals as goal

pub store_at-requires-clause-ready : goal.store_at-requires-clause-ready
store_at-requires-clause-ready c =
    let p : ScriptPlan = script_plan c.args.context.now.plan.now in
    let k : Environment = known_values c.args.context.now.known.now in
    let t : TermPlan = term_plan c.args.term.now in
    ready_fits p k t c.in-Ok.ready (store_term p k c.args.context.now.no c.args.place t c.requires.well) (sym c.in-Ok.ensures)

pub target_of-target-requires-clause-place : goal.target_of-target-requires-clause-place
target_of-target-requires-clause-place c =
    store_place (script_plan c.args.context.now.plan.now) (known_values c.args.context.now.known.now) c.args.context.now.no c.args.place (term_plan c.args.term.now) c.requires.well

pub returns-in_default : goal.returns-in_default
returns-in_default c =
    store_failing (script_plan c.args.context.now.plan.now) (known_values c.args.context.now.known.now) c.args.context.now.no c.args.path.now c.fail.new.self c.requires.sure c.args.place (term_plan c.args.term.now) c.in_default.field-0 c.arith.result
    (sym c.ready_of.ensures ∙ c.in_default.is) c.fail.ensures c.arith.ensures.kind c.arith.ensures.no

pub returns : goal.returns
returns c =
    on_ok c.store_at.result
    (store_stepped (script_plan c.args.context.now.plan.now) (known_values c.args.context.now.known.now) c.args.context.now.no c.args.path.now c.store_at.new.path c.requires.sure c.args.place (term_plan c.args.term.now) c.in-Ok.ready c.target_of-target.result
    (sym c.in-Ok.ensures) c.target_of-target.ensures.place c.target_of-target.ensures.number)
    c.store_at.ensures
