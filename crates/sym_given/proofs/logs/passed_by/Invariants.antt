-- The header fits the script.
use Rattle.sym_check.specs.Checking.CheckedScripts.{checked_plan}
use Rattle.sym_table.specs.Rows.{FitsHeader}
use Rattle.sym_given.proofs.logs.passed_by.Given as goal

abbrev pub invariant-records : goal.invariant-records
invariant-records l = FitsHeader (checked_plan l.checked).fields l.cutter.header
