-- The rows so far are dealt, and the cursor has the others.
use Rattle.std.proofs.Common.{◌≡◌, ◌+◌, ◌++◌, List, Some, drop}
use Rattle.sym_check.specs.Checking.CheckedScripts.{checked_plan}
use Rattle.sym_table.specs.ChunkRecords.{chunk_records}
use Rattle.sym_table.specs.Reading.{Row}
use Rattle.sym_table.specs.RowRecords.{records_or_bad}
use Rattle.sym_shuffle.proofs.DealtRows.{AreDealtOn}
use Rattle.sym_shuffle.proofs.dealt.deal_chunk.Given as goal

abbrev pub invariant-rows : goal.invariant-rows
invariant-rows l = record {
  number : l.no ≡ l.chunk.first_no + l._index;
  dealt : AreDealtOn (checked_plan l.dealer.checked.now) l.dealer.marks.now l.dealer.groups.now (chunk_records (checked_plan l.dealer.checked.now) l.chunk)
      (records_or_bad (checked_plan l.dealer.checked.now) l.chunk.header l.no (drop l._index l.chunk.rows)) l.fn.dealt l.dealt;
  rest : List Row;
  had : l.fn.cursor ≡ Some (l.chunk.rows ++ rest);
  left : l.cursor ≡ Some (drop l._index l.chunk.rows ++ rest);
}
