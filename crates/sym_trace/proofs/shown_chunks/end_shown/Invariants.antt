-- The chunks from the end on have no row.
use Rattle.std.proofs.Common.{◌≤◌, drop, length}
use Rattle.std.specs.List.{All}
use Rattle.sym_trace.specs.Showing.{ShowsNone}
use Rattle.sym_trace.proofs.shown_chunks.end_shown.Given as goal

abbrev pub invariant-chunks : goal.invariant-chunks
invariant-chunks l = record {
  some : l.first ≤ l.end;
  within : l.end ≤ length l.chunks;
  after : All (ShowsNone l.every) (drop l.end l.chunks);
}

abbrev pub decreases-chunks : goal.decreases-chunks
decreases-chunks l = l.end
