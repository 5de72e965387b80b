-- The header fits the script, and the groups that go on are in valid states.
use Rattle.sym_check.specs.Checking.CheckedScripts.{checked_plan}
use Rattle.sym_run.specs.Applying.{AreValid}
use Rattle.sym_table.specs.Rows.{FitsHeader}
use Rattle.sym_scan_tests.proofs.scanned.trace_by.Given as goal

abbrev pub invariant-rounds : goal.invariant-rounds
invariant-rounds g l = record {
  header : FitsHeader (checked_plan l.checked).fields l.cutter.header;
  valid : AreValid (checked_plan l.checked) l.traced.groups;
}
