use Rattle.std.proofs.Common.{◌<◌, true, length, get_or, sym, subst, arith}
use Rattle.sym_check.specs.Plan.ScriptPlans.{script_plan}
use Rattle.sym_path.specs.Changing.{GoesOn}
use Rattle.sym_path.specs.Fitting.{PathFits}
use Rattle.sym_path.specs.declared.path.Path.{Path}
use Rattle.sym_explore.specs.Storing.{after_store}
use Rattle.sym_explore.proofs.InPlace.{threaded_here, threaded_length, threaded_next, threaded_whole}
use Rattle.sym_explore.proofs.StoredPaths.{IsStored, TellsGoing, all_going, stored_exact, stored_faults, stored_few, stored_fit, stored_go_on}
use Rattle.sym_explore.proofs.stores.store_each.Goals as goal

pub store-requires-clause-fits : goal.store-requires-clause-fits
store-requires-clause-fits c =
    let p = script_plan c.args.plan.now in
    let R = IsStored p c.args.target.now.fault.no c.args.target.now.clamps (after_store p c.args.target.now.fault.no c.args.target.now.place c.args.ready.now) in
    let below : c.paths.path-index < length c.args.paths.now = omega (arith, threaded_length R _ _ _ _ c.paths.path-index c.paths.invariant.stored) in
    subst (λ (path : Path). PathFits p path) (sym (threaded_here R _ _ _ _ c.paths.path-index c.path-item.result c.paths.invariant.stored)) (c.requires.fits c.paths.path-index c.path-item.result below)

pub store-requires-clause-goes_on : goal.store-requires-clause-goes_on
store-requires-clause-goes_on c =
    let p = script_plan c.args.plan.now in
    let R = IsStored p c.args.target.now.fault.no c.args.target.now.clamps (after_store p c.args.target.now.fault.no c.args.target.now.place c.args.ready.now) in
    let below : c.paths.path-index < length c.args.paths.now = omega (arith, threaded_length R _ _ _ _ c.paths.path-index c.paths.invariant.stored) in
    subst (λ (path : Path). GoesOn path.end) (sym (threaded_here R _ _ _ _ c.paths.path-index c.path-item.result c.paths.invariant.stored)) (c.requires.going c.paths.path-index c.path-item.result below)

pub paths-preserved : goal.paths-preserved
paths-preserved c =
    let p = script_plan c.args.plan.now in
    let R = IsStored p c.args.target.now.fault.no c.args.target.now.clamps (after_store p c.args.target.now.fault.no c.args.target.now.place c.args.ready.now) in
    let old : Path = get_or c.paths.paths c.paths.path-index c.path-item.result in
    let below : c.paths.path-index < length c.paths.paths = omega (arith, threaded_length R _ _ _ _ c.paths.path-index c.paths.invariant.stored) in
    let within : c.paths.path-index < length c.args.paths.now = omega (arith, threaded_length R _ _ _ _ c.paths.path-index c.paths.invariant.stored) in
    let goes : GoesOn old.end = subst (λ (path : Path). GoesOn path.end) (sym (threaded_here R _ _ _ _ c.paths.path-index c.path-item.result c.paths.invariant.stored)) (c.requires.going c.paths.path-index c.path-item.result within) in
    let one : R old c.paths.out.items c.store.new.path c.store.new.out.items = record {
      goes_on = goes;
      exact = c.in_ok-store.ensures.exact;
      fits = c.in_ok-store.ensures.fits;
      few = c.in_ok-store.ensures.few;
      faults = c.in_ok-store.ensures.faults;
      stored = c.in_ok-store.ensures.stored;
    } in
    record {
      stored = threaded_next R _ _ _ _ c.paths.path-index c.path-item.result c.store.new.path c.store.new.out.items below one c.paths.invariant.stored;
      others = c.in_ok-store.ensures.others;
      going = threaded_next TellsGoing _ _ _ _ c.paths.path-index c.path-item.result c.store.new.path _ below c.still_going-all_go_on.ensures c.paths.invariant.going;
    }

pub returns-clause-exact : goal.returns-clause-exact
returns-clause-exact c =
    let p = script_plan c.args.plan.now in
    stored_exact p c.args.target.now.fault.no c.args.target.now.clamps (after_store p c.args.target.now.fault.no c.args.target.now.place c.args.ready.now) c.args.paths.now c.args.out.now.items c.paths.paths c.paths.out.items (threaded_whole (IsStored p c.args.target.now.fault.no c.args.target.now.clamps (after_store p c.args.target.now.fault.no c.args.target.now.place c.args.ready.now)) _ _ _ _ c.paths.path-index c.paths-test.false c.paths.invariant.stored)

pub returns-clause-fits : goal.returns-clause-fits
returns-clause-fits c =
    let p = script_plan c.args.plan.now in
    stored_fit p c.args.target.now.fault.no c.args.target.now.clamps (after_store p c.args.target.now.fault.no c.args.target.now.place c.args.ready.now) c.args.paths.now c.args.out.now.items c.paths.paths c.paths.out.items (threaded_whole (IsStored p c.args.target.now.fault.no c.args.target.now.clamps (after_store p c.args.target.now.fault.no c.args.target.now.place c.args.ready.now)) _ _ _ _ c.paths.path-index c.paths-test.false c.paths.invariant.stored)

pub returns-clause-next : goal.returns-clause-next
returns-clause-next c = λ t. (all_going _ true c.paths.paths c.paths.all_go_on (threaded_whole TellsGoing _ _ _ _ c.paths.path-index c.paths-test.false c.paths.invariant.going) t).1

pub returns-clause-few : goal.returns-clause-few
returns-clause-few c =
    let p = script_plan c.args.plan.now in
    stored_few p c.args.target.now.fault.no c.args.target.now.clamps (after_store p c.args.target.now.fault.no c.args.target.now.place c.args.ready.now) c.args.paths.now c.args.out.now.items c.paths.paths c.paths.out.items (threaded_whole (IsStored p c.args.target.now.fault.no c.args.target.now.clamps (after_store p c.args.target.now.fault.no c.args.target.now.place c.args.ready.now)) _ _ _ _ c.paths.path-index c.paths-test.false c.paths.invariant.stored)

pub returns-clause-faults : goal.returns-clause-faults
returns-clause-faults c =
    let p = script_plan c.args.plan.now in
    stored_faults p c.args.target.now.fault.no c.args.target.now.clamps (after_store p c.args.target.now.fault.no c.args.target.now.place c.args.ready.now) c.args.paths.now c.args.out.now.items c.paths.paths c.paths.out.items (threaded_whole (IsStored p c.args.target.now.fault.no c.args.target.now.clamps (after_store p c.args.target.now.fault.no c.args.target.now.place c.args.ready.now)) _ _ _ _ c.paths.path-index c.paths-test.false c.paths.invariant.stored)

pub returns-clause-stored : goal.returns-clause-stored
returns-clause-stored c =
    let p = script_plan c.args.plan.now in
    stored_go_on p c.args.target.now.fault.no c.args.target.now.clamps (after_store p c.args.target.now.fault.no c.args.target.now.place c.args.ready.now) c.args.paths.now c.args.out.now.items c.paths.paths c.paths.out.items (threaded_whole (IsStored p c.args.target.now.fault.no c.args.target.now.clamps (after_store p c.args.target.now.fault.no c.args.target.now.place c.args.ready.now)) _ _ _ _ c.paths.path-index c.paths-test.false c.paths.invariant.stored)
