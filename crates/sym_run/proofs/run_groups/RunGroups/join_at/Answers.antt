use Rattle.std.proofs.Common.{sym, subst}
use Rattle.sym_check.specs.Checking.CheckedScripts.{checked_plan}
use Rattle.sym_run.specs.Runs.{GroupsFit}
use Rattle.sym_run.proofs.run_groups.RunGroups.join_at.Goals as goal

pub join_at-requires-clause-left : goal.join_at-requires-clause-left
join_at-requires-clause-left c = subst (GroupsFit (checked_plan c.args.checked.now)) (sym c.self.view_is) c.requires.left
