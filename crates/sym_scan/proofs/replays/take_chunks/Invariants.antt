-- The records of the chunks so far are taken, and the cursor has the rows of the others.
use Rattle.std.proofs.Common.{◌≡◌, Some, drop}
use Rattle.sym_check.specs.Checking.CheckedScripts.{checked_plan}
use Rattle.sym_table.specs.ChunkRecords.{all_records, all_rows}
use Rattle.sym_scan.proofs.ReplaySteps.{IsReplaying}
use Rattle.sym_scan.proofs.replays.take_chunks.Given as goal

abbrev pub invariant-chunks : goal.invariant-chunks
invariant-chunks l =
    let p = checked_plan l.fn.checked in
    record {
      replaying : IsReplaying p l.every (all_records p l.fn.chunks) (all_records p (drop l.chunk-index l.fn.chunks)) l.fn.progress.groups l.fn.progress.rows.items l.progress;
      left : l.cursor ≡ Some (all_rows (drop l.chunk-index l.fn.chunks));
    }
