use Rattle.std.proofs.Common.{◌≡◌, ◌∙◌, false, List, sym, ap, subst}
use Rattle.std.proofs.lemmas.List.Elements.{All-filter}
use Rattle.sym_check.specs.Checking.CheckedScripts.{checked_plan}
use Rattle.sym_check.specs.Plan.ScriptPlans.{ScriptPlan, script_plan}
use Rattle.sym_path.specs.declared.path.Path.{Path}
use Rattle.sym_path.specs.Fitting.{PathFits, SegmentFits}
use Rattle.sym_explore.specs.Limiting.{chosen, is_chosen}
use Rattle.sym_explore.proofs.Extended.{explored_of, record_of, small_of, when_answered}
use Rattle.sym_explore.proofs.Limited.{explored_apart, extended_from}
use Rattle.sym_explore.proofs.path_limits.extend_copied.Goals as goal

pub explore_going-requires-clause-rec : goal.explore_going-requires-clause-rec
explore_going-requires-clause-rec c =
    record_of (script_plan c.plan-plan.result.now) (checked_plan c.args.checked.now) c.args.rec.now c.plan-plan.ensures.same c.requires.rec

pub explore_going-requires-clause-fits : goal.explore_going-requires-clause-fits
explore_going-requires-clause-fits c =
    let p : ScriptPlan = checked_plan c.args.checked.now in
    let is : c.in_ok-going.going.items ≡ chosen false c.args.segment = c.in_ok-going.ensures ∙ ap (chosen false) c.paths.ensures in
    subst (λ (plan : ScriptPlan). SegmentFits plan c.in_ok-going.going.items) (sym c.plan-plan.ensures.same)
    (subst (λ (ps : List Path). SegmentFits p ps) (sym is) (All-filter (is_chosen false) (PathFits p) c.args.segment c.requires.fits))

pub returns : goal.returns
returns c =
    let q : ScriptPlan = script_plan c.plan-plan.result.now in
    let p : ScriptPlan = checked_plan c.args.checked.now in
    let old : List Path = c.args.segment in
    let grown : List Path = c.in_ok-grown.grown.items in
    let same : q ≡ p = c.plan-plan.ensures.same in
    let small = small_of q p same c.plan-plan.ensures.accepted.few in
    let is : c.in_ok-going.going.items ≡ chosen false old = c.in_ok-going.ensures ∙ ap (chosen false) c.paths.ensures in
    let apart = explored_of q p c.args.rec.now c.in_ok-going.going.items (chosen false old) grown same is c.in_ok-grown.ensures.explored in
    let explored = explored_apart p c.args.rec.now old grown c.requires.fits apart in
    when_answered c.extend_by.result (λ e by. extended_from p c.args.rec.now old grown c.args.limit e small explored by) c.extend_by.ensures
