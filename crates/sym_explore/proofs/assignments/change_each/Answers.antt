use Rattle.std.proofs.Common.{◌<◌, length, sym, subst, arith}
use Rattle.sym_check.specs.Plan.DoPlans.{do_plan}
use Rattle.sym_check.specs.Checking.KnownValues.{known_values}
use Rattle.sym_check.specs.Plan.ScriptPlans.{script_plan}
use Rattle.sym_path.specs.Changing.{GoesOn}
use Rattle.sym_path.specs.Fitting.{PathFits}
use Rattle.sym_path.specs.declared.path.Path.{Path}
use Rattle.sym_vector.proofs.Changes.{Changed-here, Changed-length, Changed-next, Changed-whole}
use Rattle.sym_explore.specs.Ending.{IsChanged}
use Rattle.sym_explore.specs.Stepping.{after_do}
use Rattle.sym_explore.proofs.assignments.change_each.Goals as goal

pub change-requires-clause-goes_on : goal.change-requires-clause-goes_on
change-requires-clause-goes_on c =
    let R : Path → Path → Type 0 = IsChanged (script_plan c.args.plan.now) (after_do (script_plan c.args.plan.now) (known_values c.args.known.now) 0 (do_plan c.args.statement.now)) in
    let below : c.paths.path-index < length c.args.paths.now = omega (arith, Changed-length R _ _ c.paths.path-index (c.paths.invariant 0)) in
    subst (λ (path : Path). GoesOn path.end) (sym (Changed-here R _ _ c.paths.path-index c.path-item.result (c.paths.invariant 0))) (c.requires.going c.paths.path-index c.path-item.result below)

pub change-requires-clause-fits : goal.change-requires-clause-fits
change-requires-clause-fits c =
    let R : Path → Path → Type 0 = IsChanged (script_plan c.args.plan.now) (after_do (script_plan c.args.plan.now) (known_values c.args.known.now) 0 (do_plan c.args.statement.now)) in
    let below : c.paths.path-index < length c.args.paths.now = omega (arith, Changed-length R _ _ c.paths.path-index (c.paths.invariant 0)) in
    subst (λ (path : Path). PathFits (script_plan c.args.plan.now) path) (sym (Changed-here R _ _ c.paths.path-index c.path-item.result (c.paths.invariant 0))) (c.requires.fits c.paths.path-index c.path-item.result below)

pub paths-preserved : goal.paths-preserved
paths-preserved c = λ n.
    let R : Path → Path → Type 0 = IsChanged (script_plan c.args.plan.now) (after_do (script_plan c.args.plan.now) (known_values c.args.known.now) n (do_plan c.args.statement.now)) in
    let below : c.paths.path-index < length c.paths.paths = omega (arith, Changed-length R _ _ c.paths.path-index (c.paths.invariant n)) in
    Changed-next R _ _ c.paths.path-index c.path-item.result c.change.new.path below (c.in_ok-change.ensures.exact n) (c.paths.invariant n)

pub returns : goal.returns
returns c = λ n.
    let R : Path → Path → Type 0 = IsChanged (script_plan c.args.plan.now) (after_do (script_plan c.args.plan.now) (known_values c.args.known.now) n (do_plan c.args.statement.now)) in
    Changed-whole R c.args.paths.now c.paths.paths c.paths.path-index c.paths-test.false (c.paths.invariant n)
