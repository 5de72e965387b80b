use Rattle.std.proofs.Common.{rules, ap, ◌≡◌, ◌++◌, List, sym, subst, ◌∙◌}
use Rattle.std.specs.Prelude.{OnOk}
use Rattle.sym_check.specs.Plan.CondPlans.{And, Not, Or, cond_plan}
use Rattle.sym_check.specs.Checking.KnownValues.{known_values}
use Rattle.sym_check.specs.Plan.ScriptPlans.{script_plan}
use Rattle.sym_path.specs.declared.path.Path.{Path}
use Rattle.sym_explore.specs.Evaluating.{evaluated_truth, evaluated_branches}
use Rattle.sym_explore.specs.Branches.{answered, tried}
use Rattle.sym_explore.specs.Counting.{branches_of}
use Rattle.sym_explore.specs.Trying.{CondWasTried}
use Rattle.sym_explore.proofs.AssignedLists.{on_ok}
use Rattle.sym_explore.proofs.Blocks.{none_left}
use Rattle.sym_explore.proofs.EvaluatedConditions.{evaluated_alike}
use Rattle.sym_explore.proofs.TriedConditions.{and_tried, none_tried, not_tried, or_tried, tried_alike}
use Rattle.sym_explore.proofs.conditions.+parting.Goals as goal

pub returns-then-is_empty-clause-tried : goal.returns-then-is_empty-clause-tried
returns-then-is_empty-clause-tried t c =
    let p = script_plan c.args.context.now.plan.now in
    let whole = cond_plan c.args.condition.now in
    let none = none_left c.args.lists.now.paths.items c.args.lists.now.paths.len c.args.lists.now.paths.ok.0 (sym c.is_empty.ensures ∙ c.if-is_empty.true) in
    none_tried p c.args.context.now.no (tried p (known_values c.args.context.now.known.now) c.args.context.now.no whole) (branches_of whole) c.args.lists.now.paths.items c.args.falses.now.items c.args.lists.now.ended.items none c.requires.paths c.requires.falses

pub returns-in_ok-part-in-Not-clause-tried : goal.returns-in_ok-part-in-Not-clause-tried
returns-in_ok-part-in-Not-clause-tried t c =
    let p = script_plan c.args.context.now.plan.now in
    let k = known_values c.args.context.now.known.now in
    let whole = cond_plan c.args.condition.now in
    let part = cond_plan c.deref.result.now in
    let is : whole ≡ Not part = search rules in
    let old = c.args.lists.now.paths.items in
    let first = c.part.new.lists.paths.items in
    let rest = c.part.new.falses.items in
    let before = c.args.falses.now.items in
    let after = c.move_all.new.to.items in
    let ended = c.args.lists.now.ended.items in
    let ended_after = c.part.new.lists.ended.items in
    let trues : rest ≡ c.swap.new.x.items = search rules in
    let others : c.swap.new.y.items ≡ first = search rules in
    subst (λ (new : List Path). OnOk c.move_all.result (CondWasTried p k c.args.context.now.no whole old new before after ended ended_after)) trues
    (on_ok c.move_all.result
    (λ moved. not_tried p k c.args.context.now.no whole old part is first c.new-rest.result.items rest before after ended ended_after c.new-rest.ensures.items (moved ∙ ap (λ (ps : List Path). before ++ ps) others) c.requires.falses c.in_ok-part-in-Not.ensures.tried)
    c.move_all.ensures.to)

pub returns-in_ok-part-in-And-clause-tried : goal.returns-in_ok-part-in-And-clause-tried
returns-in_ok-part-in-And-clause-tried t c =
    let whole = cond_plan c.args.condition.now in
    let left = cond_plan c.deref-in-And.result.now in
    let right = cond_plan c.deref-in-And-2.result.now in
    let is : whole ≡ And left right = search rules in
    let one = c.part-in-And.new in
    let two = c.part-in-And-2.new in
    on_ok c.part-in-And-2.result
    (λ g. and_tried (script_plan c.args.context.now.plan.now) (known_values c.args.context.now.known.now) c.args.context.now.no whole c.args.lists.now.paths.items left right is one.lists.paths.items two.lists.paths.items c.args.falses.now.items one.falses.items two.falses.items c.args.lists.now.ended.items one.lists.ended.items two.lists.ended.items c.in_ok-part-in-And.ensures.tried g)
    c.part-in-And-2.ensures.tried

pub returns-in_ok-part-in-Or-2-clause-tried : goal.returns-in_ok-part-in-Or-2-clause-tried
returns-in_ok-part-in-Or-2-clause-tried t c =
    let p = script_plan c.args.context.now.plan.now in
    let k = known_values c.args.context.now.known.now in
    let n = c.args.context.now.no in
    let whole = cond_plan c.args.condition.now in
    let left = cond_plan c.deref-in-Or.result.now in
    let right = cond_plan c.deref-in-Or-2.result.now in
    let is : whole ≡ Or left right = search rules in
    let one = c.part-in-Or.new in
    let two = c.part-in-Or-2.new in
    let first = one.lists.paths.items in
    let more = two.lists.paths.items in
    let rest : c.swap-in-Or.new.x.items ≡ one.falses.items = search rules in
    let front : c.swap-in-Or-2.new.x.items ≡ first = search rules in
    let back : c.swap-in-Or-2.new.y.items ≡ more = search rules in
    let later : CondWasTried p k n right one.falses.items more c.args.falses.now.items two.falses.items one.lists.ended.items two.lists.ended.items =
    subst (λ (ps : List Path). CondWasTried p k n right ps more c.args.falses.now.items two.falses.items one.lists.ended.items two.lists.ended.items) rest c.in_ok-part-in-Or-2.ensures.tried in
    on_ok c.move_all-in-Or.result
    (λ moved. or_tried p k n whole c.args.lists.now.paths.items left right is first c.new-rest-in-Or.result.items one.falses.items more c.move_all-in-Or.new.to.items c.args.falses.now.items two.falses.items c.args.lists.now.ended.items one.lists.ended.items two.lists.ended.items c.new-rest-in-Or.ensures.items (moved ∙ (λ i. front i ++ back i)) c.in_ok-part-in-Or.ensures.tried later)
    c.move_all-in-Or.ensures.to

pub returns-in_ok-evaluated-in_default : goal.returns-in_ok-evaluated-in_default
returns-in_ok-evaluated-in_default t c =
    let p = script_plan c.args.context.now.plan.now in
    let k = known_values c.args.context.now.known.now in
    let n = c.args.context.now.no in
    let whole = cond_plan c.args.condition.now in
    let evaluated = c.in_ok-evaluated-in_default.evaluated in
    let args = c.evaluate.new.args in
    let before = c.args.falses.now.items in
    let after = c.part_evaluated.new.falses.items in
    let is = c.in_ok-evaluated-in_default.ensures in
    record {
      tried = on_ok c.part_evaluated.result
          (tried_alike p n (answered n (evaluated_truth p args evaluated)) (tried p k n whole) (evaluated_branches evaluated) (branches_of whole) c.args.lists.now.paths.items c.part_evaluated.new.lists.paths.items before after c.args.lists.now.ended.items c.part_evaluated.new.lists.ended.items (evaluated_alike p k n whole args evaluated is) is.few)
          c.part_evaluated.ensures.tried;
      fixed = λ f. c.part_evaluated.ensures.fixed (is.fixed f);
      none = λ e. absurd {A = OnOk c.part_evaluated.result (after ≡ before)} (search (rules, c.if-is_empty.false, c.is_empty.ensures, e));
    }
