use Rattle.std.proofs.Common.{◌+◌, ◌≤◌, ap, arith, drop, length}
use Rattle.std.proofs.lemmas.List.{drop_all}
use Rattle.sym_check.specs.Checking.CheckedScripts.{checked_plan}
use Rattle.sym_table.specs.ChunkRecords.{all_records, all_rows}
use Rattle.sym_table.proofs.Stepping.{next_chunk}
use Rattle.sym_passes.specs.Passed.{ArePassed}
use Rattle.sym_passes.proofs.Folds.{chunk_folded, is_passed}
use Rattle.sym_files.proofs.Walks.{walk_ends}
use Rattle.sym_passes.proofs.folded_rounds.fold_chunks.Goals as goal

pub fold_chunk-requires-clause-rows : goal.fold_chunk-requires-clause-rows
fold_chunk-requires-clause-rows c =
    let chunks = c.args.chunks.now in
    (all_rows (drop (c.chunks.chunk-index + 1) chunks), next_chunk c.chunks.cursor chunks c.chunks.chunk-index c.chunk-item.result c.chunks-test.true c.chunk-item.is c.chunks.invariant.left)

pub chunks-preserved : goal.chunks-preserved
chunks-preserved c =
    let p = checked_plan c.args.checked.now in
    let chunks = c.args.chunks.now in
    let next = next_chunk c.chunks.cursor chunks c.chunks.chunk-index c.chunk-item.result c.chunks-test.true c.chunk-item.is c.chunks.invariant.left in
    record {
      walk =
          chunk_folded p chunks c.chunks.chunk-index c.chunk-item.result c.in_ok-fold_chunk.field-0 (all_records p chunks)
          c.args.folded.now.groups c.chunks.folded.groups c.fold_chunk.new.folded.groups c.chunks-test.true c.chunk-item.is c.in-Done.is c.in_ok-fold_chunk.ensures.takes c.chunks.invariant.walk;
      left = is_passed c.in_ok-fold_chunk.field-0 c.chunk-item.result.rows c.chunks.cursor c.fold_chunk.new.cursor c.in-Done.is c.in_ok-fold_chunk.ensures.passes (all_rows (drop (c.chunks.chunk-index + 1) chunks)) next;
    }

pub returns : goal.returns
returns c =
    let p = checked_plan c.args.checked.now in
    let chunks = c.args.chunks.now in
    let past : length chunks ≤ c.chunks.chunk-index = omega (arith, c.chunks-test.false) in
    walk_ends (ArePassed p) (all_records p chunks) (all_records p (drop c.chunks.chunk-index chunks)) c.args.folded.now.groups c.chunks.folded.groups c.chunks.invariant.walk
    (ap (all_records p) (drop_all c.chunks.chunk-index chunks past))
