use Rattle.std.proofs.Common.{List, Result, Ok, Err, sym, subst}
use Rattle.std.specs.Prelude.{OnOk}
use Rattle.sym_check.specs.Plan.ScriptPlans.{script_plan}
use Rattle.sym_path.specs.declared.path.Path.{Path}
use Rattle.sym_explore.specs.Trying.{EvaluatedWasTried}
use Rattle.sym_explore.specs.declared.parted_lists.Evaluated.{Evaluated}
use Rattle.sym_explore.proofs.AssignedLists.{on_ok_both}
use Rattle.sym_explore.proofs.TriedConditions.{failed_tried, known_tried, open_tried}
use Rattle.sym_explore.proofs.parted_lists.part_evaluated.Goals as goal

on_ok_all : {A E P Q R S T : Type 0} (r : Result A E) → OnOk r P → OnOk r Q → OnOk r R → OnOk r S → (P → Q → R → S → T) → OnOk r T
on_ok_all (Ok x) h k l m f = f h k l m
on_ok_all (Err e) h k l m f = tt

pub returns-in-Known-clause-tried : goal.returns-in-Known-clause-tried
returns-in-Known-clause-tried c =
    let p = script_plan c.args.context.now.plan.now in
    let old = c.args.lists.now.paths.items in
    let new = c.part_known.new.paths.items in
    let before = c.args.falses.now.items in
    let after = c.part_known.new.falses.items in
    let ended = c.args.lists.now.ended.items in
    subst (λ (evaluated : Evaluated). OnOk c.part_known.result (EvaluatedWasTried p c.args.args.now c.args.context.now.no evaluated old new before after ended ended)) (sym c.in-Known.is)
    (on_ok_both c.part_known.result c.part_known.ensures.trues c.part_known.ensures.falses
    (λ is more. known_tried p c.args.args.now c.args.context.now.no old new before ended c.requires.paths c.requires.falses after c.in-Known.truth is more))

pub returns-in-Failed-clause-tried : goal.returns-in-Failed-clause-tried
returns-in-Failed-clause-tried c =
    let p = script_plan c.args.context.now.plan.now in
    let old = c.args.lists.now.paths.items in
    let new = c.fail_all.new.paths.items in
    let before = c.args.falses.now.items in
    let ended = c.args.lists.now.ended.items in
    let ended_after = c.fail_all.new.ended.items in
    subst (λ (evaluated : Evaluated). OnOk c.fail_all.result (EvaluatedWasTried p c.args.args.now c.args.context.now.no evaluated old new before before ended ended_after)) (sym c.in-Failed.is)
    (on_ok_both c.fail_all.result c.fail_all.ensures.paths c.fail_all.ensures.ended
    (λ none more. failed_tried p c.args.args.now c.args.context.now.no old new before ended c.requires.paths c.requires.falses ended_after c.arith.result c.arith.ensures.kind c.arith.ensures.no none more))

pub returns-in-Open-clause-tried : goal.returns-in-Open-clause-tried
returns-in-Open-clause-tried c =
    let p = script_plan c.args.context.now.plan.now in
    let old = c.args.lists.now.paths.items in
    let new = c.part_each.new.lists.paths.items in
    let before = c.args.falses.now.items in
    let after = c.part_each.new.falses.items in
    let ended = c.args.lists.now.ended.items in
    subst (λ (ends : List Path). OnOk c.part_each.result (EvaluatedWasTried p c.args.args.now c.args.context.now.no c.args.evaluated.now old new before after ended ends)) (sym c.part_each.ensures.ended)
    (subst (λ (evaluated : Evaluated). OnOk c.part_each.result (EvaluatedWasTried p c.args.args.now c.args.context.now.no evaluated old new before after ended ended)) (sym c.in-Open.is)
    (on_ok_all c.part_each.result (c.part_each.ensures.exact c.args.context.now.no) c.part_each.ensures.few c.part_each.ensures.going c.part_each.ensures.falses
    (open_tried p c.args.args.now c.args.context.now.no old new before ended c.requires.paths c.requires.falses after c.in-Open.condition)))
