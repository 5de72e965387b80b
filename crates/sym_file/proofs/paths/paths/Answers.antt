use Rattle.std.proofs.lemmas.Result.{err_from_is_err_and}
use Rattle.sym_check.specs.Plan.ScriptPlans.{script_plan}
use Rattle.sym_file.specs.Reading.{many, path_at}
use Rattle.sym_file.proofs.Loops.{goes_on, is_done, stops}
use Rattle.sym_file.proofs.paths.paths.Goals as goal

pub returns-in_err-path : goal.returns-in_err-path
returns-in_err-path c =
    let p = err_from_is_err_and c.from_residual.result c.from_residual.ensures.1 in
    rw (p.1, p.2) (stops (path_at (script_plan c.args.plan.now)) c.paths.paths.items c.args.count c.paths.counter c.paths.rest.now (many (path_at (script_plan c.args.plan.now)) c.args.count c.args.bytes.now) c.in_err-path.field-0.0 c.paths-test.true c.in_err-path.ensures c.paths.invariant)

pub paths-preserved : goal.paths-preserved
paths-preserved c =
    rw c.in_ok-push.ensures.items (goes_on (path_at (script_plan c.args.plan.now)) c.paths.paths.items c.args.count c.paths.counter c.paths.rest.now (many (path_at (script_plan c.args.plan.now)) c.args.count c.args.bytes.now) c.in_ok-path.path c.in_ok-path.after.now c.paths-test.true c.in_ok-path.ensures c.paths.invariant)

pub returns : goal.returns
returns c = is_done (path_at (script_plan c.args.plan.now)) c.paths.paths.items c.args.count c.paths.counter c.paths.rest.now (many (path_at (script_plan c.args.plan.now)) c.args.count c.args.bytes.now) c.paths-test.false c.paths.invariant
