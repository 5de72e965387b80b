use Rattle.std.proofs.Common.{◌≡◌, ◌∙◌, ◌<◌, ◌≤◌, ℕ, ◌+◌, List, Some, ap, arith, length, slice_get}
use Rattle.std.specs.Prelude.{slice_range}
use Rattle.sym_table.specs.ChunkRecords.{all_rows}
use Rattle.sym_table.specs.declared.chunk.Chunk.{Chunk}
use Rattle.sym_workers.proofs.RoundRuns.{chunk_at, next_between}
use Rattle.sym_workers.proofs.Stretched.{finished}
use Rattle.sym_workers.proofs.workers.run_between.Goals as goal

pub chunks-init : goal.chunks-init
chunks-init g c = record {
  ends = c.new-stretch.ensures.chunks;
  tight = λ none. c.new-stretch.ensures.tight _ _;
  stands = c.new-stretch.ensures.stands _ _ _ (omega (arith, c.requires.some, c.requires.within));
  left = λ none.
      c.in_ok-cursor.ensures ∙ ap (λ (cuts : List Chunk). Some (all_rows cuts)) c.chunks_between.ensures;
}

pub take-requires-clause-rows : goal.take-requires-clause-rows
take-requires-clause-rows g c = λ none.
    let cuts = c.args.work.now.chunks in
    let items = c.as_slice-chunks.result.now in
    let within : c.args.range.end ≤ length cuts = c.requires.within in (
      all_rows (slice_range cuts (c.chunks.number + 1) c.args.range.end),
      next_between c.chunks.cursor cuts items c.chunks.number c.args.range.end c.index-chunks-number.result c.as_slice-chunks.ensures c.chunks-test.true within c.index-chunks-number.is (c.chunks.invariant.left none),
    )

pub chunks-preserved : goal.chunks-preserved
chunks-preserved g c =
    let cuts = c.args.work.now.chunks in
    let items = c.as_slice-chunks.result.now in
    let near : c.chunks.number < length items = omega (arith, c.chunks-test.true, c.requires.within, ap length c.as_slice-chunks.ensures) in
    let at : slice_get cuts c.chunks.number ≡ Some c.index-chunks-number.result =
    chunk_at cuts items c.chunks.number c.index-chunks-number.result c.as_slice-chunks.ensures near c.index-chunks-number.is in
    record {
      ends = record {
        from = c.in_ok-take.ensures.chunks.from ∙ c.chunks.invariant.ends.from;
        to = c.in_ok-take.ensures.chunks.to ∙ ap (λ (n : ℕ). n + 1) c.chunks.invariant.ends.to;
      };
      tight = c.in_ok-take.ensures.tight;
      stands = c.in_ok-take.ensures.stands cuts c.chunks.invariant.stands (ap (slice_get cuts) c.chunks.invariant.ends.to ∙ at);
      left = λ none.
          let passed = c.in_ok-take.ensures.passes none in
          passed.1 (all_rows (slice_range cuts (c.chunks.number + 1) c.args.range.end))
          (next_between c.chunks.cursor cuts items c.chunks.number c.args.range.end c.index-chunks-number.result c.as_slice-chunks.ensures c.chunks-test.true c.requires.within c.index-chunks-number.is (c.chunks.invariant.left passed.0));
    }

pub returns : goal.returns
returns g c =
    let work = c.args.work.now in
    let last : c.chunks.number ≡ c.args.range.end = omega (arith, c.chunks-test.false) in
    finished work c.args.range.first c.args.range.end c.chunks.stretch.lo c.chunks.stretch.hi c.finish.result c.chunks.invariant.ends.from (c.chunks.invariant.ends.to ∙ last)
    c.finish.ensures.chunks (c.finish.ensures.stands work.chunks c.chunks.invariant.stands)
