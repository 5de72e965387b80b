-- The chunks so far are dealt, and the cursor has the rows of the others.
use Rattle.std.proofs.Common.{◌≡◌, Some, drop}
use Rattle.sym_check.specs.Checking.CheckedScripts.{checked_plan}
use Rattle.sym_table.specs.ChunkRecords.{all_records, all_rows}
use Rattle.sym_shuffle.proofs.DealtRows.{AreChunksDealt}
use Rattle.sym_shuffle.proofs.dealt.deal.Given as goal

abbrev pub invariant-chunks : goal.invariant-chunks
invariant-chunks g l = record {
  dealt : AreChunksDealt (checked_plan l.dealer.checked.now) l.dealer.marks.now l.dealer.groups.now (all_records (checked_plan l.dealer.checked.now) l.chunks)
      (all_records (checked_plan l.dealer.checked.now) (drop l.chunk-index l.chunks)) l.dealt;
  left : l.cursor ≡ Some (all_rows (drop l.chunk-index l.chunks));
}
