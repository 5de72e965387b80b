-- The rows so far are records, and the cursor has the others.
use Rattle.std.proofs.Common.{◌≡◌, ◌+◌, ◌++◌, List, Some, drop, map}
use Rattle.std.specs.Option.{unwrap_or}
use Rattle.sym_check.specs.Checking.CheckedScripts.{checked_plan}
use Rattle.sym_table.specs.ChunkRecords.{chunk_records}
use Rattle.sym_table.specs.Reading.{Row}
use Rattle.sym_table.specs.RowRecords.{records_or_bad}
use Rattle.sym_files.specs.Rounds.{shown_chunk}
use Rattle.sym_engine_tests.proofs.Noting.{IsRead}
use Rattle.sym_engine_tests.proofs.rounds.read_chunk.Given as goal

abbrev pub invariant-rows : goal.invariant-rows
invariant-rows l = record {
  number : l.no ≡ l.chunk.first_no + l._index;
  walk : IsRead (chunk_records (checked_plan l.checked) (shown_chunk (unwrap_or l.one) l.chunk))
      (records_or_bad (checked_plan l.checked) l.chunk.header l.no (map (unwrap_or l.one) (drop l._index l.chunk.rows)));
  rest : List Row;
  left : l.cursor ≡ Some (drop l._index l.chunk.rows ++ rest);
}
