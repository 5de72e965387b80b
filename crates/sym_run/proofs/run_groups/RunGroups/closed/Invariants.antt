use Rattle.sym_check.specs.Checking.CheckedScripts.{checked_plan}
use Rattle.sym_run.proofs.ClosedGroups.{AreClosing, kept_kind}
use Rattle.sym_run.proofs.run_groups.RunGroups.closed.Given as goal

abbrev pub invariant-groups : goal.invariant-groups
invariant-groups l = AreClosing kept_kind (checked_plan l.fn.checked) l.limit l.fn.self l.key-iterator l.closed.entries
