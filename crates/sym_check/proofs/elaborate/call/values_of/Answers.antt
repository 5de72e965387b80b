-- The loop goes on as the values that are left.
use Rattle.std.proofs.Common.{◌≡◌, ◌∙◌, [], ◌∷◌, ◌++◌, map, drop, ap, sym}
use Rattle.std.proofs.lemmas.List.{nil_from_length, map-append}
use Rattle.std.specs.Vec.Iter.{into_iter_items}
use Rattle.sym_check.specs.declared.plan.script.KindPlan.TheVariants.{Num}
use Rattle.sym_check.specs.Checking.TypedPlans.{located_plan}
use Rattle.sym_check.specs.Plan.FixedPlans.{fixed_plan}
use Rattle.sym_check.proofs.Gathered.{values-next, values-end}
use Rattle.sym_check.proofs.elaborate.call.values_of.Goals as goal

pub returns-in_default : goal.returns-in_default
returns-in_default c =
    let none : into_iter_items c.kinds.rest ≡ [] = nil_from_length _ (sym c.kinds.rest.rest.ok.0 ∙ c.in_default.ensures.cases.0) in
    c.kinds.invariant
    ∙ values-end (drop c.kinds.kind-index c.args.kinds.now) (map located_plan (into_iter_items c.kinds.rest)) (map fixed_plan c.kinds.values.items) (ap (map located_plan) none)
    ∙ cc

pub kinds-preserved : goal.kinds-preserved
kinds-preserved c =
    let value = c.in_ok-value_of.field-0 in
    let others = into_iter_items c.next.new.self in
    let taken : map located_plan (into_iter_items c.kinds.rest) ≡ located_plan c.in-Some.value ∷ map located_plan others = ap (map located_plan) c.in-Some.ensures.items in
    let added : map fixed_plan c.push.new.self.items ≡ map fixed_plan c.kinds.values.items ++ fixed_plan value ∷ [] =
    ap (map fixed_plan) c.in_ok-push.ensures.items ∙ map-append fixed_plan c.kinds.values.items (value ∷ []) in
    c.kinds.invariant
    ∙ values-next c.args.kinds.now c.kinds.kind-index Num _ (located_plan c.in-Some.value) (map located_plan others) (fixed_plan value) _ _ c.kinds-test.true c.in_ok-value_of.ensures taken added
