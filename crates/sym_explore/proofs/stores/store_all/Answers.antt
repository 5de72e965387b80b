use Rattle.std.proofs.Common.{true, false, ◌∙◌, sym, subst}
use Rattle.sym_check.specs.Meaning.Fitting.{FitsFault}
use Rattle.sym_check.specs.Meaning.FixedValues.{Environment}
use Rattle.sym_check.specs.Checking.KnownValues.{known_values}
use Rattle.sym_check.specs.Plan.LinePlans.{TermPlan, term_plan}
use Rattle.sym_check.specs.Plan.ScriptPlans.{ScriptPlan, script_plan}
use Rattle.sym_explore.proofs.AssignedLists.{failed_run, on_ok, on_ok_both, store_failed, store_place, store_run, store_term}
use Rattle.sym_explore.proofs.TermForms.{ready_fits}
use Rattle.sym_explore.proofs.stores.store_all.Goals as goal

pub returns-in_default : goal.returns-in_default
returns-in_default c =
    let p : ScriptPlan = script_plan c.args.context.now.plan.now in
    let k : Environment = known_values c.args.context.now.known.now in
    let t : TermPlan = term_plan c.args.term.now in
    on_ok_both c.fail_all.result c.fail_all.ensures.paths c.fail_all.ensures.ended
    (λ e f. store_failed p k c.args.context.now.no c.args.place t c.in_default.field-0 c.arith.result c.args.lists.now.paths.items c.fail_all.new.paths.items c.args.lists.now.ended.items c.fail_all.new.ended.items (sym c.ready_of.ensures ∙ c.in_default.is) c.arith.ensures.kind c.arith.ensures.no
    (failed_run p c.arith.result c.args.lists.now.paths.items c.fail_all.new.paths.items c.args.lists.now.ended.items c.fail_all.new.ended.items e f (subst (FitsFault p) (sym c.arith.ensures.kind) tt) c.requires.paths.fits c.requires.paths.going c.requires.paths.ended_fit))

pub target_of-target-requires-clause-place : goal.target_of-target-requires-clause-place
target_of-target-requires-clause-place c =
    store_place (script_plan c.args.context.now.plan.now) (known_values c.args.context.now.known.now) c.args.context.now.no c.args.place (term_plan c.args.term.now) c.requires.well

pub clamp_each-requires-clause-ready : goal.clamp_each-requires-clause-ready
clamp_each-requires-clause-ready c =
    let p : ScriptPlan = script_plan c.args.context.now.plan.now in
    let k : Environment = known_values c.args.context.now.known.now in
    let t : TermPlan = term_plan c.args.term.now in
    ready_fits p k t c.in-Ok.ready (store_term p k c.args.context.now.no c.args.place t c.requires.well) (sym c.in-Ok.ensures)

pub end_each-requires-clause-ready : goal.end_each-requires-clause-ready
end_each-requires-clause-ready c =
    let p : ScriptPlan = script_plan c.args.context.now.plan.now in
    let k : Environment = known_values c.args.context.now.known.now in
    let t : TermPlan = term_plan c.args.term.now in
    ready_fits p k t c.in-Ok.ready (store_term p k c.args.context.now.no c.args.place t c.requires.well) (sym c.in-Ok.ensures)

pub returns-then-target : goal.returns-then-target
returns-then-target c =
    on_ok c.clamp_each.result
    (store_run (script_plan c.args.context.now.plan.now) (known_values c.args.context.now.known.now) c.args.context.now.no c.args.place (term_plan c.args.term.now) c.in-Ok.ready c.target_of-target.result true
    c.args.lists.now.paths.items c.clamp_each.new.paths.items c.args.lists.now.ended.items c.args.lists.now.ended.items
    (sym c.in-Ok.ensures) c.target_of-target.ensures.place c.target_of-target.ensures.number (sym c.target_of-target.ensures.clamps ∙ c.if-target.true))
    (c.clamp_each.ensures c.args.lists.now.ended.items c.requires.paths.ended_fit)

pub returns-else-target : goal.returns-else-target
returns-else-target c =
    on_ok c.end_each.result
    (store_run (script_plan c.args.context.now.plan.now) (known_values c.args.context.now.known.now) c.args.context.now.no c.args.place (term_plan c.args.term.now) c.in-Ok.ready c.target_of-target.result false
    c.args.lists.now.paths.items c.end_each.new.paths.items c.args.lists.now.ended.items c.end_each.new.ended.items
    (sym c.in-Ok.ensures) c.target_of-target.ensures.place c.target_of-target.ensures.number (sym c.target_of-target.ensures.clamps ∙ c.if-target.false))
    c.end_each.ensures
