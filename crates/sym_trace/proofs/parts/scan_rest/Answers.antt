use Rattle.sym_check.specs.Checking.CheckedScripts.{checked_plan}
use Rattle.sym_trace.proofs.HiddenRounds.{rest_broken, rest_led, scan_broken}
use Rattle.sym_trace.proofs.parts.scan_rest.Goals as goal

pub returns-in-Done-2-clause-scanned : goal.returns-in-Done-2-clause-scanned
returns-in-Done-2-clause-scanned g c =
    let p = checked_plan c.args.work.now.checked in
    let part = c.args.shown in
    let led = c.in_ok-groups-in-Done in
    rest_led p c.args.every c.args.work.now.chunks c.args.groups part.first part.end c.len-count.result c.requires.some c.in_ok-rows.field-0 c.in_ok-rows.ensures.scanned
    c.in-Done.rows c.in-Done.groups c.in-Done-2.groups led.field-0 c.len-count.ensures c.requires.after c.in-Done.is led.ensures.applied c.in-Done-2.is

pub returns-in-Bad-2-clause-scanned : goal.returns-in-Bad-2-clause-scanned
returns-in-Bad-2-clause-scanned g c =
    let p = checked_plan c.args.work.now.checked in
    let part = c.args.shown in
    let led = c.in_ok-groups-in-Done in
    rest_broken p c.args.every c.args.work.now.chunks c.args.groups part.first part.end c.len-count.result c.requires.some c.in_ok-rows.field-0 c.in_ok-rows.ensures.scanned
    c.in-Done.rows c.in-Done.groups led.field-0 c.in-Bad-2.bad c.len-count.ensures c.in-Done.is led.ensures.applied c.in-Bad-2.is

pub returns-in-Bad-clause-scanned : goal.returns-in-Bad-clause-scanned
returns-in-Bad-clause-scanned g c =
    let p = checked_plan c.args.work.now.checked in
    let part = c.args.shown in
    scan_broken p c.args.every c.args.work.now.chunks c.args.groups part.first part.end c.len-count.result c.requires.some c.in_ok-rows.field-0 c.in_ok-rows.ensures.scanned
    c.in-Bad.bad c.in-Bad.is
