use Rattle.std.proofs.Common.{◌≡◌, ◌∷◌, [], rules}
use Rattle.sym_check.specs.Checking.CheckedScripts.{checked_plan}
use Rattle.sym_check.specs.Plan.ScriptPlans.{script_plan}
use Rattle.sym_explore.proofs.Extended.{IsIdentity, explored_of, first_segment, record_of, small_of, when_answered}
use Rattle.sym_explore.proofs.extensions.fresh_with.Goals as goal

pub explore_each-requires-clause-rec : goal.explore_each-requires-clause-rec
explore_each-requires-clause-rec c =
    record_of (script_plan c.plan.result.now) (checked_plan c.args.checked.now) c.args.rec.now c.plan.ensures.same c.requires

pub returns : goal.returns
returns c =
    let p = checked_plan c.args.checked.now in
    let one : c.push.new.self.items ≡ c.in_ok-whole.whole ∷ [] = search rules in
    let explored = explored_of (script_plan c.plan.result.now) p c.args.rec.now c.push.new.self.items (c.in_ok-whole.whole ∷ []) c.in_ok-explored.explored.items c.plan.ensures.same one c.in_ok-explored.ensures.explored in
    let small = small_of (script_plan c.plan.result.now) p c.plan.ensures.same c.plan.ensures.accepted.few in
    let identity : IsIdentity p c.in_ok-whole.whole = record { fits = c.in_ok-whole.ensures.fits; admitted = c.in_ok-whole.ensures.admits; leaves = c.in_ok-whole.ensures.leaves; whole = c.in_ok-whole.ensures.whole } in
    when_answered c.settle.result
    (λ segment settling. first_segment p c.args.rec.now c.in_ok-whole.whole c.in_ok-explored.explored.items segment small explored settling identity)
    c.settle.ensures
