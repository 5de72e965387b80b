-- The chunks so far are folded, and the cursor has the rows of the others.
use Rattle.std.proofs.Common.{◌≡◌, Some, drop}
use Rattle.sym_check.specs.Checking.CheckedScripts.{checked_plan}
use Rattle.sym_table.specs.ChunkRecords.{all_records, all_rows}
use Rattle.sym_passes.specs.Passed.{ArePassed}
use Rattle.sym_files.proofs.Walks.{IsWalk}
use Rattle.sym_passes.proofs.folded_rounds.fold_chunks.Given as goal

abbrev pub invariant-chunks : goal.invariant-chunks
invariant-chunks l = record {
  walk : IsWalk (ArePassed (checked_plan l.checked)) (all_records (checked_plan l.checked) l.chunks)
      (all_records (checked_plan l.checked) (drop l.chunk-index l.chunks)) l.fn.folded.groups l.folded.groups;
  left : l.cursor ≡ Some (all_rows (drop l.chunk-index l.chunks));
}
