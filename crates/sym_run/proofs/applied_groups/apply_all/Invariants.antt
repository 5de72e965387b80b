use Rattle.sym_check.specs.Checking.CheckedScripts.{checked_plan}
use Rattle.sym_run.proofs.Stepping.{IsApplying}
use Rattle.sym_run.proofs.applied_groups.apply_all.Given as goal

abbrev pub invariant-groups : goal.invariant-groups
invariant-groups l = IsApplying (checked_plan l.fn.checked) l.fn.chains l.key-iterator l.fn.groups l.groups
