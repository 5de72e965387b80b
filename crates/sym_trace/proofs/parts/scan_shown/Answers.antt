use Rattle.std.proofs.Common.{List, subst, take}
use Rattle.std.specs.List.{All}
use Rattle.sym_check.specs.Checking.CheckedScripts.{checked_plan}
use Rattle.sym_table.specs.declared.chunk.Chunk.{Chunk}
use Rattle.sym_trace.specs.Showing.{ShowsNone}
use Rattle.sym_trace.proofs.HiddenRounds.{head_broken, head_led}
use Rattle.sym_trace.proofs.parts.scan_shown.Goals as goal

pub returns-in-Done-clause-scanned : goal.returns-in-Done-clause-scanned
returns-in-Done-clause-scanned g c =
    let p = checked_plan c.args.work.now.checked in
    let first = c.shown_part-shown.result.first in
    head_led p c.args.every c.args.work.now.chunks c.args.groups first c.in-Done.groups c.in_ok-groups.field-0 c.scan_rest.result
    (subst (λ (cuts : List Chunk). All (ShowsNone c.args.every) (take first cuts)) c.as_slice.ensures c.shown_part-shown.ensures.before)
    c.in_ok-groups.ensures.applied c.in-Done.is c.scan_rest.ensures.scanned

pub returns-in-Bad-clause-scanned : goal.returns-in-Bad-clause-scanned
returns-in-Bad-clause-scanned g c =
    let p = checked_plan c.args.work.now.checked in
    head_broken p c.args.every c.args.work.now.chunks c.args.groups c.shown_part-shown.result.first c.in_ok-groups.field-0 c.in-Bad.bad c.in_ok-groups.ensures.applied
    c.in-Bad.is
