use Rattle.sym_check.specs.Checking.CheckedScripts.{checked_tree, checked_plan}
use Rattle.sym_report.proofs.Under.{rows_under}
use Rattle.sym_report.proofs.report.write_report.Goals as goal

pub write_rows-requires : goal.write_rows-requires
write_rows-requires g c =
    let accepted = rw c.plan-plan.ensures.same at c.plan-plan.ensures.accepted in
    rw c.in_ok-heads.ensures
    (rows_under (checked_tree c.args.checked.now) (checked_plan c.args.checked.now)
    c.args.groups.now accepted c.requires)
