use Rattle.std.proofs.Common.{◌≡◌, None}
use Rattle.sym_check.specs.Checking.CheckedScripts.{checked_plan}
use Rattle.sym_run.specs.Opened.{OpenGroupsAreTight, OpenGroupsFit}
use Rattle.sym_run_tests.proofs.stretches.run_of.Given as goal

abbrev pub invariant-chunks : goal.invariant-chunks
invariant-chunks l = record {
  to : l.stretch.hi ≡ l.number;
  fits : OpenGroupsFit (checked_plan l.fn.checked) l.stretch.groups;
  tight : l.stretch.bad ≡ None → OpenGroupsAreTight (checked_plan l.fn.checked) l.fn.way.limit l.stretch.groups;
}
