use Rattle.std.proofs.Common.{◌<◌, length, sym, subst, arith}
use Rattle.sym_check.specs.Plan.ScriptPlans.{script_plan}
use Rattle.sym_path.specs.Fitting.{PathFits}
use Rattle.sym_path.specs.declared.path.Path.{Path}
use Rattle.sym_vector.proofs.Changes.{Changed-here, Changed-length, Changed-next, Changed-whole}
use Rattle.sym_explore.specs.Sure.{IsSteppedOn, IsSureEnd}
use Rattle.sym_explore.proofs.known_paths.step_each.Goals as goal

pub step_path-requires-clause-fits : goal.step_path-requires-clause-fits
step_path-requires-clause-fits c =
    let R : Path → Path → Type 0 = IsSteppedOn (script_plan c.args.plan.now) c.args.rec.now in
    let below : c.paths.path-index < length c.args.paths.now = omega (arith, Changed-length R _ _ c.paths.path-index c.paths.invariant) in
    subst (λ (path : Path). PathFits (script_plan c.args.plan.now) path) (sym (Changed-here R _ _ c.paths.path-index c.path-item.result c.paths.invariant)) (c.requires.fits c.paths.path-index c.path-item.result below)

pub step_path-requires-clause-sure : goal.step_path-requires-clause-sure
step_path-requires-clause-sure c =
    let R : Path → Path → Type 0 = IsSteppedOn (script_plan c.args.plan.now) c.args.rec.now in
    let below : c.paths.path-index < length c.args.paths.now = omega (arith, Changed-length R _ _ c.paths.path-index c.paths.invariant) in
    subst (λ (path : Path). IsSureEnd path.end) (sym (Changed-here R _ _ c.paths.path-index c.path-item.result c.paths.invariant)) (c.requires.sure c.paths.path-index c.path-item.result below)

pub paths-preserved : goal.paths-preserved
paths-preserved c =
    let R : Path → Path → Type 0 = IsSteppedOn (script_plan c.args.plan.now) c.args.rec.now in
    let below : c.paths.path-index < length c.paths.paths = omega (arith, Changed-length R _ _ c.paths.path-index c.paths.invariant) in
    Changed-next R _ _ c.paths.path-index c.path-item.result c.step_path.new.path below c.in_ok-step_path.ensures c.paths.invariant

pub returns : goal.returns
returns c =
    let R : Path → Path → Type 0 = IsSteppedOn (script_plan c.args.plan.now) c.args.rec.now in
    Changed-whole R c.args.paths.now c.paths.paths c.paths.path-index c.paths-test.false c.paths.invariant
