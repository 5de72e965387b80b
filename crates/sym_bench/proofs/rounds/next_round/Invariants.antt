-- The chunks so far fit.
use Rattle.std.proofs.Common.{◌≡◌, List, length}
use Rattle.std.specs.List.{All}
use Rattle.sym_check.specs.declared.plan.script.FieldPlan.{FieldPlan}
use Rattle.sym_table.specs.Rows.{FitsChunk, FitsHeader}
use Rattle.sym_bench.proofs.rounds.next_round.Given as goal

abbrev pub invariant-chunks : goal.invariant-chunks
invariant-chunks l = record {
  count : length l.chunks ≡ l._number;
  fit : (fields : List FieldPlan) → FitsHeader fields l.fn.cutter.header → All (FitsChunk fields) l.chunks;
  header : l.cutter.header ≡ l.fn.cutter.header;
}
