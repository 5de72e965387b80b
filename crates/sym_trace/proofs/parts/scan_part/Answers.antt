use Rattle.std.proofs.Common.{arith, ◌<◌}
use Rattle.sym_check.specs.Checking.CheckedScripts.{checked_plan}
use Rattle.sym_trace.proofs.HiddenRounds.{own_round}
use Rattle.sym_trace.proofs.parts.scan_part.Goals as goal

pub scan_work-requires-2-clause-round : goal.scan_work-requires-2-clause-round
scan_work-requires-2-clause-round g c κs within =
    let part = c.in_ok-part.field-0 in
    let some : c.args.part.first < c.args.part.end = omega (arith, c.requires.some, c.if-first-end.false) in
    own_round (checked_plan c.args.work.now.checked) (checked_plan part.checked) c.args.work.now.chunks part.chunks c.args.part.first c.args.part.end c.in_ok-part.ensures.plan
    c.in_ok-part.ensures.chunks c.requires.round some c.requires.within
