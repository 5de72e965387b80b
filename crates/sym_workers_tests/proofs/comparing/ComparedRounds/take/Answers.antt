use Rattle.sym_check.specs.Checking.CheckedScripts.{checked_plan}
use Rattle.sym_run.specs.declared.runs.Applied.TheVariants as applied
use Rattle.sym_files.specs.Rounds.{round_records}
use Rattle.sym_workers_tests.proofs.Answered.{came}
use Rattle.sym_workers_tests.proofs.comparing.ComparedRounds.take.Goals as goal

pub returns-in-Done-clause-takes : goal.returns-in-Done-clause-takes
returns-in-Done-clause-takes g c =
    let read = round_records (checked_plan c.args.work.now.checked) (λ row. row) c.args.work.now.chunks in
    let are = came read c.in_ok-alone.alone (applied.Done c.in-Done._groups) c.in-Done.is c.in_ok-alone.ensures.comes_to in (are.0, are.1, λ before stood. stood)

pub returns-clause-takes : goal.returns-clause-takes
returns-clause-takes g c =
    let read = round_records (checked_plan c.args.work.now.checked) (λ row. row) c.args.work.now.chunks in
    came read c.in_ok-alone.alone (applied.Bad c.in-Bad.bad) c.in-Bad.is c.in_ok-alone.ensures.comes_to
