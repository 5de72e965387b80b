use Rattle.sym_check.specs.Checking.CheckedScripts.{checked_plan}
use Rattle.sym_files.specs.Rounds.{round_records}
use Rattle.sym_passes.proofs.AppliedRuns.{all_broken, all_led, with_workers}
use Rattle.sym_passes.proofs.led_rounds.PassRoundsRounds.take.Goals as goal

pub returns-in-Done-clause-takes : goal.returns-in-Done-clause-takes
returns-in-Done-clause-takes g c =
    let p = checked_plan c.args.work.now.checked in
    let read = round_records p (g.G.Gate.shown c.args.self.now.gate.now) c.args.work.now.chunks in
    with_workers p c.args.self.now.workers read c.args.self.now.groups c.in-Done.groups
    (all_led p read c.args.self.now.groups c.replace-groups.result c.in-Done.groups c.in_ok-applied.applied c.replace-groups.ensures.value c.in_ok-applied.ensures.applied c.in_ok-applied.ensures.valid c.in-Done.is)

pub returns-in-Bad-clause-takes : goal.returns-in-Bad-clause-takes
returns-in-Bad-clause-takes g c =
    let p = checked_plan c.args.work.now.checked in
    let read = round_records p (g.G.Gate.shown c.args.self.now.gate.now) c.args.work.now.chunks in
    all_broken p read c.replace-groups.result c.in_ok-applied.applied c.in-Bad.bad c.in_ok-applied.ensures.applied c.in-Bad.is
