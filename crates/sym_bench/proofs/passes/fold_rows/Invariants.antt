-- The header stays.
use Rattle.sym_check.specs.Checking.CheckedScripts.{checked_plan}
use Rattle.sym_table.specs.Rows.{FitsHeader}
use Rattle.sym_bench.proofs.passes.fold_rows.Given as goal

abbrev pub invariant-rounds : goal.invariant-rounds
invariant-rounds l = FitsHeader (checked_plan l.checked).fields l.cutter.header
