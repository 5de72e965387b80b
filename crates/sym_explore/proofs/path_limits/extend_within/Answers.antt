use Rattle.std.proofs.Common.{◌≡◌, ◌≤◌, List, length, subst}
use Rattle.sym_check.specs.Checking.CheckedScripts.{checked_plan}
use Rattle.sym_check.specs.Plan.ScriptPlans.{ScriptPlan, script_plan}
use Rattle.sym_path.specs.declared.path.Path.{Path}
use Rattle.sym_explore.specs.Counting.{made_paths, most_grown}
use Rattle.sym_explore.proofs.Extended.{explored_of, record_of, small_of}
use Rattle.sym_explore.proofs.Limited.{is_longer, settled_within}
use Rattle.sym_explore.proofs.path_limits.extend_within.Goals as goal

pub explore_going-requires-clause-rec : goal.explore_going-requires-clause-rec
explore_going-requires-clause-rec c =
    record_of (script_plan c.plan-plan.result.now) (checked_plan c.args.checked.now) c.args.rec.now c.plan-plan.ensures.same c.requires.rec

-- Where the paths can't be too many, the longer segment is within the limit.
pub returns-then-surely_fit : goal.returns-then-surely_fit
returns-then-surely_fit c =
    let q : ScriptPlan = script_plan c.plan-plan.result.now in
    let p : ScriptPlan = checked_plan c.args.checked.now in
    let old : List Path = c.args.segment in
    let grown : List Path = c.in_ok-grown.grown.items in
    let new : List Path = c.in_ok-settle.field-0 in
    let same : q ≡ p = c.plan-plan.ensures.same in
    let small = small_of q p same c.plan-plan.ensures.accepted.few in
    let explored = explored_of q p c.args.rec.now c.into_vec.result.items old grown same c.into_vec.ensures c.in_ok-grown.ensures.explored in
    let few : length grown ≤ most_grown (made_paths p) old =
    subst (λ (ps : List Path). length grown ≤ most_grown (made_paths p) ps) c.into_vec.ensures
    (subst (λ (plan : ScriptPlan). length grown ≤ most_grown (made_paths plan) c.into_vec.result.items) same c.in_ok-grown.ensures.each_few) in
    let within : most_grown c.path_bound.result old ≤ c.args.limit =
    subst (λ (ps : List Path). most_grown c.path_bound.result ps ≤ c.args.limit) c.paths-2.ensures (c.surely_fit.ensures c.if-surely_fit.true) in (
      is_longer p c.args.rec.now old grown new small explored c.in_ok-settle.ensures,
      settled_within p old grown new c.path_bound.result c.args.limit small c.path_bound.ensures.bound few c.in_ok-settle.ensures within,
    )
