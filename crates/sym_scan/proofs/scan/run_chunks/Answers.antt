use Rattle.std.proofs.Common.{◌≡◌, ◌∙◌, ◌+◌, ℕ, Some, ap, arith, drop, length, slice_get, refl}
use Rattle.std.proofs.lemmas.Option.{slice_get_read}
use Rattle.sym_table.specs.ChunkRecords.{all_rows}
use Rattle.sym_table.proofs.Stepping.{next_chunk}
use Rattle.sym_scan.proofs.PartLaws.{run_ended}
use Rattle.sym_scan.proofs.scan.run_chunks.Goals as goal

pub chunks-init : goal.chunks-init
chunks-init c = record {
  ends = c.new-stretch.ensures.chunks;
  tight = λ none. c.new-stretch.ensures.tight _ _;
  stands = c.new-stretch.ensures.stands _ _ _ (omega arith);
  left = λ none. c.in_ok-cursor.ensures;
}

pub take-requires-clause-rows : goal.take-requires-clause-rows
take-requires-clause-rows c = λ none.
    let chunks = c.args.chunks.now in (
      all_rows (drop (c.chunks.chunk-index + 1) chunks),
      next_chunk c.chunks.cursor chunks c.chunks.chunk-index c.chunk-item.result c.chunks-test.true c.chunk-item.is (c.chunks.invariant.left none),
    )

pub chunks-preserved : goal.chunks-preserved
chunks-preserved c =
    let chunks = c.args.chunks.now in
    let at : slice_get chunks c.chunks.chunk-index ≡ Some c.chunk-item.result = slice_get_read chunks (length chunks) c.chunks.chunk-index c.chunk-item.result refl c.chunks-test.true c.chunk-item.is in
    record {
      ends = record {
        from = c.in_ok-take.ensures.chunks.from ∙ c.chunks.invariant.ends.from;
        to = c.in_ok-take.ensures.chunks.to ∙ ap (λ (n : ℕ). n + 1) c.chunks.invariant.ends.to;
      };
      tight = c.in_ok-take.ensures.tight;
      stands = c.in_ok-take.ensures.stands chunks c.chunks.invariant.stands (ap (slice_get chunks) c.chunks.invariant.ends.to ∙ at);
      left = λ none.
          let passed = c.in_ok-take.ensures.passes none in
          passed.1 (all_rows (drop (c.chunks.chunk-index + 1) chunks))
          (next_chunk c.chunks.cursor chunks c.chunks.chunk-index c.chunk-item.result c.chunks-test.true c.chunk-item.is (c.chunks.invariant.left passed.0));
    }

pub returns-clause-ends : goal.returns-clause-ends
returns-clause-ends c =
    let last : c.chunks.chunk-index ≡ length c.args.chunks.now = omega (arith, c.chunks-test.false, c.chunks.invariant.stands.within, c.chunks.invariant.ends.to) in
    run_ended _ _ _ c.finish.result c.chunks.invariant.ends.from (c.chunks.invariant.ends.to ∙ last) c.finish.ensures.chunks

pub returns-clause-stands : goal.returns-clause-stands
returns-clause-stands c = c.finish.ensures.stands c.args.chunks.now c.chunks.invariant.stands
