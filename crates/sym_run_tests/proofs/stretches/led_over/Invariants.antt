use Rattle.std.proofs.Common.{◌≤◌}
use Rattle.sym_check.specs.Checking.CheckedScripts.{checked_plan}
use Rattle.sym_run.specs.Applying.{AreValid}
use Rattle.sym_run_tests.proofs.stretches.led_over.Given as goal

abbrev pub invariant-chunks : goal.invariant-chunks
invariant-chunks l = record {
  first : l.first ≤ l.index;
  valid : AreValid (checked_plan l.fn.checked) l.groups;
}
