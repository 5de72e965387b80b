use Rattle.std.proofs.Common.{◌∙◌, ◌+◌, ◌≤◌, None, ap, arith, drop, length, refl, sym}
use Rattle.std.specs.Map.{keys_of}
use Rattle.std.proofs.lemmas.List.{drop_all}
use Rattle.sym_check.specs.Checking.CheckedScripts.{checked_plan}
use Rattle.sym_table.specs.ChunkRecords.{all_records, all_rows}
use Rattle.sym_table.proofs.Stepping.{next_chunk}
use Rattle.sym_shuffle.specs.declared.dealt.Dealt.{Dealt}
use Rattle.sym_shuffle.proofs.DealtKeys.{none_dealt}
use Rattle.sym_shuffle.proofs.DealtRows.{chunk_dealt, chunk_passed, chunk_refused, chunks_dealt, no_chunk_dealt}
use Rattle.sym_shuffle.proofs.dealt.deal.Goals as goal

pub chunks-init : goal.chunks-init
chunks-init g c =
    let p = checked_plan c.args.dealer.now.checked.now in
    let new : Dealt = record { batch = c.in_ok-with_room.field-0; new = c.new-2.result; bad = None } in
    record {
      dealt =
          no_chunk_dealt p c.args.dealer.now.marks.now c.args.dealer.now.groups.now (all_records p c.args.chunks.now) new
          (none_dealt p c.args.dealer.now.marks.now c.args.dealer.now.groups.now new refl (ap keys_of c.new-2.ensures.empty) c.in_ok-with_room.ensures.places c.in_ok-with_room.ensures.numbers c.in_ok-with_room.ensures.values);
      left = c.in_ok-cursor.ensures;
    }

pub deal_chunk-requires-clause-rows : goal.deal_chunk-requires-clause-rows
deal_chunk-requires-clause-rows g c =
    let chunks = c.args.chunks.now in
    (all_rows (drop (c.chunks.chunk-index + 1) chunks), next_chunk c.chunks.cursor chunks c.chunks.chunk-index c.chunk-item.result c.chunks-test.true c.chunk-item.is c.chunks.invariant.left)

pub returns-then-is_some : goal.returns-then-is_some
returns-then-is_some g c =
    let p = checked_plan c.args.dealer.now.checked.now in
    let chunks = c.args.chunks.now in
    chunk_refused p c.args.dealer.now.marks.now c.args.dealer.now.groups.now chunks c.chunks.chunk-index c.chunk-item.result (all_records p chunks) c.chunks.dealt c.deal_chunk.new.dealt
    c.chunks-test.true c.chunk-item.is (sym c.is_some.ensures ∙ c.if-is_some.true) c.in_ok-deal_chunk.ensures.dealt c.chunks.invariant.dealt

pub chunks-preserved : goal.chunks-preserved
chunks-preserved g c =
    let p = checked_plan c.args.dealer.now.checked.now in
    let chunks = c.args.chunks.now in
    let next = next_chunk c.chunks.cursor chunks c.chunks.chunk-index c.chunk-item.result c.chunks-test.true c.chunk-item.is c.chunks.invariant.left in
    record {
      dealt =
          chunk_dealt p c.args.dealer.now.marks.now c.args.dealer.now.groups.now chunks c.chunks.chunk-index c.chunk-item.result (all_records p chunks) c.chunks.dealt c.deal_chunk.new.dealt
          c.chunks-test.true c.chunk-item.is (sym c.is_some.ensures ∙ c.if-is_some.false) c.in_ok-deal_chunk.ensures.dealt c.chunks.invariant.dealt;
      left = chunk_passed c.deal_chunk.new.dealt.bad c.chunk-item.result.rows c.chunks.cursor c.deal_chunk.new.cursor (sym c.is_some.ensures ∙ c.if-is_some.false) c.in_ok-deal_chunk.ensures.passes (all_rows (drop (c.chunks.chunk-index + 1) chunks)) next;
    }

pub returns : goal.returns
returns g c =
    let p = checked_plan c.args.dealer.now.checked.now in
    let chunks = c.args.chunks.now in
    let past : length chunks ≤ c.chunks.chunk-index = omega (arith, c.chunks-test.false) in
    chunks_dealt p c.args.dealer.now.marks.now c.args.dealer.now.groups.now (all_records p chunks) (all_records p (drop c.chunks.chunk-index chunks)) c.chunks.dealt
    (ap (all_records p) (drop_all c.chunks.chunk-index chunks past)) c.chunks.invariant.dealt
