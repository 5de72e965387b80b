-- The records of the rows so far are taken, and the cursor has the other rows.
use Rattle.std.proofs.Common.{◌≡◌, ◌+◌, ◌++◌, List, Some, drop}
use Rattle.sym_check.specs.Checking.CheckedScripts.{checked_plan}
use Rattle.sym_table.specs.ChunkRecords.{chunk_records}
use Rattle.sym_table.specs.Reading.{Row}
use Rattle.sym_table.specs.RowRecords.{records_or_bad}
use Rattle.sym_scan.proofs.ReplaySteps.{IsReplaying}
use Rattle.sym_scan.proofs.replays.take_rows.Given as goal

abbrev pub invariant-rows : goal.invariant-rows
invariant-rows l =
    let p = checked_plan l.fn.script.checked.now in
    record {
      replaying : IsReplaying p l.script.every (chunk_records p l.fn.chunk) (records_or_bad p l.fn.chunk.header (l.fn.chunk.first_no + l.index) (drop l.index l.fn.chunk.rows)) l.fn.progress.groups l.fn.progress.rows.items l.progress;
      rest : List Row;
      had : l.fn.cursor ≡ Some (l.fn.chunk.rows ++ rest);
      left : l.cursor ≡ Some (drop l.index l.fn.chunk.rows ++ rest);
    }
