use Rattle.std.proofs.lemmas.Result.{err_from_is_err_and}
use Rattle.sym_check.specs.Plan.ScriptPlans.{script_plan}
use Rattle.sym_file.proofs.OneItem.{segment_fails, segment_read}
use Rattle.sym_file.proofs.paths.one_segment.Goals as goal

pub returns-in_err-segment : goal.returns-in_err-segment
returns-in_err-segment c =
    let e = err_from_is_err_and c.from_residual.result c.from_residual.ensures.1 in
    rw (e.1, e.2) (segment_fails (script_plan c.args.plan.now) c.args.bytes.now c.in_err-segment.field-0.0 c.in_err-segment.ensures)

pub returns : goal.returns
returns c = rw c.in_ok-chain.ensures (segment_read (script_plan c.args.plan.now) c.args.bytes.now c.in_ok-segment.segment c.in_ok-segment.rest.now c.in_ok-segment.ensures)
