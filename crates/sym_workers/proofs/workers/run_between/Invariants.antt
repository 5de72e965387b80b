-- The open run stands for the chunks so far, and the cursor has the rows of the others.
use Rattle.std.proofs.Common.{◌≡◌, None, Some}
use Rattle.std.specs.Prelude.{slice_range}
use Rattle.sym_check.specs.Checking.CheckedScripts.{checked_plan}
use Rattle.sym_table.specs.ChunkRecords.{all_rows}
use Rattle.sym_run.specs.OpenRuns.{IsOpenFromTo, OpenStandsForChunks}
use Rattle.sym_run.specs.Opened.{OpenGroupsAreTight}
use Rattle.sym_workers.proofs.workers.run_between.Given as goal

abbrev pub invariant-chunks : goal.invariant-chunks
invariant-chunks g l = record {
  ends : IsOpenFromTo l.fn.range.first l.number l.stretch;
  tight : l.stretch.bad ≡ None → OpenGroupsAreTight (checked_plan l.fn.work.checked) l.fn.work.limit l.stretch.groups;
  stands : OpenStandsForChunks (checked_plan l.fn.work.checked) l.fn.work.limit l.fn.work.chunks l.stretch;
  left : l.stretch.bad ≡ None → l.cursor ≡ Some (all_rows (slice_range l.fn.work.chunks l.number l.fn.range.end));
}
