-- What is left of the groups comes to the same.
use Rattle.std.proofs.Common.{◌≡◌, drop}
use Rattle.sym_check.specs.Checking.CheckedScripts.{checked_plan}
use Rattle.sym_file.specs.Totals.{taken}
use Rattle.sym_run.specs.Applying.{AreValid}
use Rattle.sym_file.proofs.totals.take_all.Given as goal

abbrev pub invariant-groups : goal.invariant-groups
invariant-groups l = record {
  valid : AreValid (checked_plan l.checked) l.groups;
  taken : taken (checked_plan l.checked) l.index (drop l.index l.saved.groups) l.groups ≡ taken (checked_plan l.checked) 0 l.saved.groups l.fn.groups;
}
