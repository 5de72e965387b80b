use Rattle.sym_check.specs.Checking.CheckedScripts.{checked_plan}
use Rattle.sym_files.specs.Rounds.{shown_chunks}
use Rattle.sym_workers.proofs.LedRounds.{all_applied}
use Rattle.sym_workers.proofs.gates.Gate.lead_round.Goals as goal

pub returns-clause-applied : goal.returns-clause-applied
returns-clause-applied g c =
    let work = c.args.work.now in
    let cuts = shown_chunks (g.Self.Gate.shown c.args.self.now) work.chunks in
    all_applied (checked_plan work.checked) work.limit cuts c.in_ok-run.run' c.args.groups c.apply_run.result c.in_ok-run.ensures
    (c.apply_run.ensures.applied work.limit cuts c.in_ok-run.ensures.stands)
