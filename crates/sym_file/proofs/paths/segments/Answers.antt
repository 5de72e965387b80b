use Rattle.std.proofs.lemmas.Result.{err_from_is_err_and}
use Rattle.sym_check.specs.Plan.ScriptPlans.{script_plan}
use Rattle.sym_file.specs.Reading.{many, segment_at}
use Rattle.sym_file.proofs.Loops.{goes_on, is_done, stops}
use Rattle.sym_file.proofs.paths.segments.Goals as goal

pub returns-in_err-segment : goal.returns-in_err-segment
returns-in_err-segment c =
    let p = err_from_is_err_and c.from_residual.result c.from_residual.ensures.1 in
    rw (p.1, p.2) (stops (segment_at (script_plan c.args.plan.now)) c.segments.segments.items c.args.count c.segments.counter c.segments.rest.now (many (segment_at (script_plan c.args.plan.now)) c.args.count c.args.bytes.now) c.in_err-segment.field-0.0 c.segments-test.true c.in_err-segment.ensures c.segments.invariant)

pub segments-preserved : goal.segments-preserved
segments-preserved c =
    rw c.in_ok-push.ensures.items (goes_on (segment_at (script_plan c.args.plan.now)) c.segments.segments.items c.args.count c.segments.counter c.segments.rest.now (many (segment_at (script_plan c.args.plan.now)) c.args.count c.args.bytes.now) c.in_ok-segment.segment c.in_ok-segment.after.now c.segments-test.true c.in_ok-segment.ensures c.segments.invariant)

pub returns : goal.returns
returns c = is_done (segment_at (script_plan c.args.plan.now)) c.segments.segments.items c.args.count c.segments.counter c.segments.rest.now (many (segment_at (script_plan c.args.plan.now)) c.args.count c.args.bytes.now) c.segments-test.false c.segments.invariant
