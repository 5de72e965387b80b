use Rattle.sym_check.specs.Checking.CheckedScripts.{checked_plan}
use Rattle.sym_scan.proofs.PartLaws.{started_bad, started_done}
use Rattle.sym_scan.proofs.part_starts.start.Goals as goal

pub returns-in-Done-clause-starts : goal.returns-in-Done-clause-starts
returns-in-Done-clause-starts c = λ limit chunks ends stands.
    started_done (checked_plan c.args.checked.now) limit chunks c.args.run c.args.groups.now c.replace-before.result c.in-Done.after c.in_ok-starts.starts c.in_ok-after.field-0 ends stands
    c.in_ok-after.ensures.bad c.in_ok-after.ensures.groups c.replace-before.ensures.value c.in-Done.is c.in_ok-starts.ensures

pub returns-in-Bad-clause-starts : goal.returns-in-Bad-clause-starts
returns-in-Bad-clause-starts c = λ limit chunks ends stands.
    started_bad (checked_plan c.args.checked.now) limit chunks c.args.run c.args.groups.now c.replace-before.result c.replace-before.new.dest c.in-Bad.bad c.in_ok-after.field-0 ends stands
    c.in_ok-after.ensures.bad c.in_ok-after.ensures.groups c.in-Bad.is
