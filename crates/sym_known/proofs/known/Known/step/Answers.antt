use Rattle.std.proofs.Common.{◌≡◌, ◌∙◌, ◌++◌, ◌∷◌, [], List, length, drop, map, take, refl, sym, ap, subst, arith}
use Rattle.sym_base.specs.declared.values.record.Record.{Record}
use Rattle.sym_base.specs.declared.values.state.Outcome.{Outcome}
use Rattle.sym_check.specs.Checking.CheckedScripts.{checked_plan}
use Rattle.sym_check.specs.Plan.ScriptPlans.{ScriptPlan}
use Rattle.sym_check.specs.Plan.WellFormed.{IsWellFormed}
use Rattle.sym_vector.proofs.ListsLemmas.{written_back}
use Rattle.sym_known.specs.Holding.{AllFit, KnownPath, KnownStandsFor, stepped}
use Rattle.sym_known.proofs.KnownSteps.{stepped_fit, stepped_stand, stepped_view}
use Rattle.sym_known.proofs.known.Known.step.Goals as goal

pub returns-clause-paths : goal.returns-clause-paths
returns-clause-paths c =
    let p : ScriptPlan = checked_plan c.args.checked.now in
    let rec : Record = c.args.rec.now in
    let os : List Outcome = c.self.inside.outcomes.items in
    let new : List Outcome = c.step_each.new.outcomes in
    let these : c.deref_mut.result.now ≡ os = c.deref_mut.ensures.value in
    let back = written_back _ new os (omega (arith, c.step_each.ensures.count, ap length these)) (omega (arith, c.step_each.ensures.count, c.deref_mut.ensures.len)) in
    let view = stepped_view p rec os c.deref_mut.result.now new _ c.self.inside.placed.items c.args.self.now these c.in_ok-step_each.ensures.steps back c.self.invariant c.self.view_is in
    view

pub returns-clause-fits : goal.returns-clause-fits
returns-clause-fits c =
    let p : ScriptPlan = checked_plan c.args.checked.now in
    let rec : Record = c.args.rec.now in
    let os : List Outcome = c.self.inside.outcomes.items in
    let new : List Outcome = c.step_each.new.outcomes in
    let these : c.deref_mut.result.now ≡ os = c.deref_mut.ensures.value in
    let back = written_back _ new os (omega (arith, c.step_each.ensures.count, ap length these)) (omega (arith, c.step_each.ensures.count, c.deref_mut.ensures.len)) in
    let view = stepped_view p rec os c.deref_mut.result.now new _ c.self.inside.placed.items c.args.self.now these c.in_ok-step_each.ensures.steps back c.self.invariant c.self.view_is in
    let well : IsWellFormed p = subst IsWellFormed c.plan-plan.ensures.same c.plan-plan.ensures.well_formed in
    subst (λ (ks : List KnownPath). AllFit p ks) (sym view)
    (stepped_fit p well rec c.requires.rec (λ o valid fits. c.keys_states_and_steps_fit.ensures.then p o rec well valid fits) c.args.self.now c.requires.fits)

pub returns-clause-stands : goal.returns-clause-stands
returns-clause-stands c = λ records stand.
    let p : ScriptPlan = checked_plan c.args.checked.now in
    let rec : Record = c.args.rec.now in
    let os : List Outcome = c.self.inside.outcomes.items in
    let new : List Outcome = c.step_each.new.outcomes in
    let these : c.deref_mut.result.now ≡ os = c.deref_mut.ensures.value in
    let back = written_back _ new os (omega (arith, c.step_each.ensures.count, ap length these)) (omega (arith, c.step_each.ensures.count, c.deref_mut.ensures.len)) in
    let view = stepped_view p rec os c.deref_mut.result.now new _ c.self.inside.placed.items c.args.self.now these c.in_ok-step_each.ensures.steps back c.self.invariant c.self.view_is in
    let well : IsWellFormed p = subst IsWellFormed c.plan-plan.ensures.same c.plan-plan.ensures.well_formed in
    subst (λ (ks : List KnownPath). KnownStandsFor p (records ++ rec ∷ []) ks) (sym view) (stepped_stand p well rec records c.args.self.now c.requires.fits stand)
