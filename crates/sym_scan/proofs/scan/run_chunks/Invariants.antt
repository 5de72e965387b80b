-- The open run stands for the chunks so far, and the cursor has the rows of the others.
use Rattle.std.proofs.Common.{◌≡◌, None, Some, drop}
use Rattle.sym_check.specs.Checking.CheckedScripts.{checked_plan}
use Rattle.sym_table.specs.ChunkRecords.{all_rows}
use Rattle.sym_run.specs.OpenRuns.{IsOpenFromTo, OpenStandsForChunks}
use Rattle.sym_run.specs.Opened.{OpenGroupsAreTight}
use Rattle.sym_scan.proofs.scan.run_chunks.Given as goal

abbrev pub invariant-chunks : goal.invariant-chunks
invariant-chunks l = record {
  ends : IsOpenFromTo 0 l.chunk-index l.stretch;
  tight : l.stretch.bad ≡ None → OpenGroupsAreTight (checked_plan l.fn.checked) l.fn.limit l.stretch.groups;
  stands : OpenStandsForChunks (checked_plan l.fn.checked) l.fn.limit l.fn.chunks l.stretch;
  left : l.stretch.bad ≡ None → l.cursor ≡ Some (all_rows (drop l.chunk-index l.fn.chunks));
}
