use Rattle.std.proofs.Common.{◌≡◌, ◌≤◌, [], List, length, refl, rules, subst, sym}
use Rattle.sym_check.specs.Plan.ScriptPlans.{ScriptPlan, script_plan}
use Rattle.sym_path.specs.declared.path.Path.{Path}
use Rattle.sym_explore.specs.Counting.{made_paths, most_grown}
use Rattle.sym_explore.specs.Ending.{AreMoved}
use Rattle.sym_explore.specs.Growing.{IsExplored}
use Rattle.sym_explore.proofs.Extended.{ended_fit, explored_run, going_fit, known_update}
use Rattle.sym_explore.proofs.Limited.{explored_each_few}
use Rattle.sym_explore.proofs.extensions.explore_going.Goals as goal

pub run_block-requires-clause-well : goal.run_block-requires-clause-well
run_block-requires-clause-well c =
    let none : c.truncate.new.self ≡ [] = search rules in
    known_update (script_plan c.args.plan.now) c.args.rec.now c.truncate.new.self none c.requires.known c.requires.rec

pub run_block-requires-clause-paths : goal.run_block-requires-clause-paths
run_block-requires-clause-paths c =
    let p : ScriptPlan = script_plan c.args.plan.now in
    let old : List Path = c.args.paths.items in
    let going : List Path = c.take_going.new.going.items in
    let ended : List Path = c.take_going.new.paths.items in
    let moved : AreMoved old going [] ended = subst (λ (ps : List Path). AreMoved ps going [] ended) c.take_lists-lists.ensures.ended c.in_ok-take_going.ensures.moved in
    record {
      fits = going_fit p old going [] ended refl moved c.requires.fits;
      going = c.in_ok-take_going.ensures.going;
      ended_fit = ended_fit p old going [] ended refl moved c.requires.fits;
    }

pub returns-clause-explored : goal.returns-clause-explored
returns-clause-explored c =
    let p : ScriptPlan = script_plan c.args.plan.now in
    let old : List Path = c.args.paths.items in
    let going : List Path = c.take_going.new.going.items in
    let ended : List Path = c.take_going.new.paths.items in
    let moved : AreMoved old going [] ended = subst (λ (ps : List Path). AreMoved ps going [] ended) c.take_lists-lists.ensures.ended c.in_ok-take_going.ensures.moved in
    let none : c.truncate.new.self ≡ [] = search rules in
    subst (λ (ps : List Path). IsExplored p c.args.rec.now old ps) (sym c.keep_lists.ensures.ended)
    (explored_run p c.args.rec.now old going [] ended c.run_block.new.lists.paths.items c.run_block.new.lists.ended.items c.move_all.new.to.items refl moved c.in_ok-take_going.ensures.going c.in_ok-move_all.ensures.to c.truncate.new.self none c.in_ok-run_block.ensures.run)

pub returns-clause-each_few : goal.returns-clause-each_few
returns-clause-each_few c =
    let p : ScriptPlan = script_plan c.args.plan.now in
    let old : List Path = c.args.paths.items in
    let going : List Path = c.take_going.new.going.items in
    let ended : List Path = c.take_going.new.paths.items in
    let moved : AreMoved old going [] ended = subst (λ (ps : List Path). AreMoved ps going [] ended) c.take_lists-lists.ensures.ended c.in_ok-take_going.ensures.moved in
    subst (λ (ps : List Path). length ps ≤ most_grown (made_paths p) old) (sym c.keep_lists.ensures.ended)
    (explored_each_few p old going [] ended c.run_block.new.lists.paths.items c.run_block.new.lists.ended.items c.move_all.new.to.items refl moved c.in_ok-take_going.ensures.going c.in_ok-move_all.ensures.to c.in_ok-run_block.ensures.run.few)
