use Rattle.std.proofs.Common.{All}
use Rattle.sym_check.specs.Checking.CheckedScripts.{checked_plan}
use Rattle.sym_check.specs.Meaning.Validity.{IsRecord}
use Rattle.sym_table.specs.Rows.{FitsHeader}
use Rattle.sym_bench.proofs.log.records_of.Given as goal

abbrev pub invariant-rows : goal.invariant-rows
invariant-rows l = record {
  header : FitsHeader (checked_plan l.checked).fields l.cutter.header;
  records : All (IsRecord (checked_plan l.checked)) l.records.items;
}
