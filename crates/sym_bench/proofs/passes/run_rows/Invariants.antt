-- The header stays, and the groups are valid.
use Rattle.sym_check.specs.Checking.CheckedScripts.{checked_plan}
use Rattle.sym_run.specs.Applying.{AreValid}
use Rattle.sym_table.specs.Rows.{FitsHeader}
use Rattle.sym_bench.proofs.passes.run_rows.Given as goal

abbrev pub invariant-rounds : goal.invariant-rounds
invariant-rounds l = record {
  header : FitsHeader (checked_plan l.checked).fields l.cutter.header;
  valid : AreValid (checked_plan l.checked) l.groups;
}
