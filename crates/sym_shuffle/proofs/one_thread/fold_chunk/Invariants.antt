-- The rows so far are folded, and the cursor has the others.
use Rattle.std.proofs.Common.{◌≡◌, ◌+◌, ◌++◌, List, Some, drop}
use Rattle.sym_check.specs.Checking.CheckedScripts.{checked_plan}
use Rattle.sym_table.specs.ChunkRecords.{chunk_records}
use Rattle.sym_table.specs.Reading.{Row}
use Rattle.sym_table.specs.RowRecords.{records_or_bad}
use Rattle.sym_shuffle.proofs.FoldedRows.{IsFolding}
use Rattle.sym_shuffle.proofs.one_thread.fold_chunk.Given as goal

abbrev pub invariant-rows : goal.invariant-rows
invariant-rows l = record {
  number : l.no ≡ l.chunk.first_no + l._index;
  folding : IsFolding (checked_plan l.checked) (chunk_records (checked_plan l.checked) l.chunk)
      (records_or_bad (checked_plan l.checked) l.chunk.header l.no (drop l._index l.chunk.rows)) l.fn.groups l.groups;
  rest : List Row;
  had : l.fn.cursor ≡ Some (l.chunk.rows ++ rest);
  left : l.cursor ≡ Some (drop l._index l.chunk.rows ++ rest);
}
