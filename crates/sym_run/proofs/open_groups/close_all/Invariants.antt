use Rattle.sym_check.specs.Checking.CheckedScripts.{checked_plan}
use Rattle.sym_run.specs.Opened.{open_kind}
use Rattle.sym_run.proofs.ClosedGroups.{AreClosing}
use Rattle.sym_run.proofs.open_groups.close_all.Given as goal

abbrev pub invariant-groups : goal.invariant-groups
invariant-groups l = AreClosing open_kind (checked_plan l.fn.checked) l.limit l.fn.map.entries l.key-iterator l.closed.entries
