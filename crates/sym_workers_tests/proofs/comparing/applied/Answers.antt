use Rattle.sym_check.specs.Checking.CheckedScripts.{checked_plan}
use Rattle.sym_workers_tests.proofs.Answered.{comes_to}
use Rattle.sym_workers_tests.proofs.comparing.applied.Goals as goal

pub returns-clause-comes_to : goal.returns-clause-comes_to
returns-clause-comes_to c =
    comes_to (checked_plan c.args.work.now.checked) c.args.work.now.limit c.args.work.now.chunks c.args.run c.args.groups c.apply.result c.requires.run
    c.apply.ensures.bad c.apply.ensures.valid c.apply.ensures.groups
