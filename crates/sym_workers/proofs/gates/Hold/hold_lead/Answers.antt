use Rattle.sym_check.specs.Checking.CheckedScripts.{checked_plan}
use Rattle.sym_workers.proofs.LedRounds.{all_applied}
use Rattle.sym_workers.proofs.gates.Hold.hold_lead.Goals as goal

pub returns-clause-applied : goal.returns-clause-applied
returns-clause-applied g c =
    let work = c.args.work.now in
    all_applied (checked_plan work.checked) work.limit work.chunks c.in_ok-run.run' c.args.groups c.apply_run.result c.in_ok-run.ensures
    (c.apply_run.ensures.applied work.limit work.chunks c.in_ok-run.ensures.stands)
