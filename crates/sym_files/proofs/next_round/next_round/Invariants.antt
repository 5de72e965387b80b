-- The chunks so far are cut off, and fit.
use Rattle.std.proofs.Common.{◌≡◌, ◌≤◌, ◌<◌, ◌*◌, List, [], Some, length}
use Rattle.std.specs.List.{All}
use Rattle.sym_check.specs.declared.plan.script.FieldPlan.{FieldPlan}
use Rattle.sym_table.specs.Rows.{FitsChunk, FitsHeader}
use Rattle.sym_files.specs.Taking.{AreCut, rows_of}
use Rattle.sym_files.proofs.next_round.next_round.Given as goal

abbrev pub invariant-chunks : goal.invariant-chunks
invariant-chunks l = record {
  cut : AreCut l.fn.cutter l.cutter l.chunks;
  count : length l.chunks ≡ l._number;
  fit : (fields : List FieldPlan) → FitsHeader fields l.fn.cutter.header → All (FitsChunk fields) l.chunks;
  header : l.cutter.header ≡ l.fn.cutter.header;
  chunk : l.cutter.chunk ≡ l.fn.cutter.chunk;
  rows : length (rows_of l.chunks) ≤ l._number * l.fn.cutter.chunk;
  full : length (rows_of l.chunks) < l._number * l.fn.cutter.chunk → l.cutter.left ≡ Some [];
}
