use Rattle.std.proofs.Common.{◌≡◌, ◌++◌, List, Some, drop, take}
use Rattle.sym_check.specs.Checking.CheckedScripts.{checked_plan}
use Rattle.sym_plain.specs.Pairs.{HaveDistinctKeys}
use Rattle.sym_table.specs.Reading.{Row}
use Rattle.sym_run.proofs.Taking.{IsTaking}
use Rattle.sym_run.proofs.chunks.take_rows.Given as goal

abbrev pub invariant-rows : goal.invariant-rows
invariant-rows l = record {
  taking : IsTaking (checked_plan l.fn.settings.checked.now) l.settings.limit l.settings.most l.fn.chunk.header l.fn.chunk.first_no (take l.index l.fn.chunk.rows) l.fn.map.entries l.map.entries;
  distinct : HaveDistinctKeys l.map.entries;
  rest : List Row;
  had : l.fn.cursor ≡ Some (l.fn.chunk.rows ++ rest);
  left : l.cursor ≡ Some (drop l.index l.fn.chunk.rows ++ rest);
}
