use Rattle.std.proofs.Common.{◌+◌, ◌≤◌, ap, arith, drop, length, subst, sym}
use Rattle.std.proofs.lemmas.List.{drop_all}
use Rattle.sym_check.specs.Checking.CheckedScripts.{checked_plan}
use Rattle.sym_check.specs.Plan.WellFormed.{IsWellFormed}
use Rattle.sym_table.specs.ChunkRecords.{all_records, all_rows}
use Rattle.sym_table.specs.Reading.{Passes}
use Rattle.sym_table.proofs.Stepping.{next_chunk}
use Rattle.sym_shuffle.specs.Begun.{AreValid, groups_after}
use Rattle.sym_shuffle.proofs.FoldedRows.{Read, all_done, chunk_folded, chunk_refused, chunks_are_records, folded_groups, none_folded, where_none}
use Rattle.sym_shuffle.proofs.one_thread.folded.Goals as goal

pub chunks-init : goal.chunks-init
chunks-init g c =
    let p = checked_plan c.args.checked.now in
    record {
      folding = none_folded p (all_records p c.args.chunks.now) c.args.groups;
      left = c.in_ok-cursor.ensures;
    }

pub fold_chunk-requires-clause-rows : goal.fold_chunk-requires-clause-rows
fold_chunk-requires-clause-rows g c =
    let chunks = c.args.chunks.now in
    (all_rows (drop (c.chunks.chunk-index + 1) chunks), next_chunk c.chunks.cursor chunks c.chunks.chunk-index c.chunk-item.result c.chunks-test.true c.chunk-item.is c.chunks.invariant.left)

pub returns-in-Some-clause-groups : goal.returns-in-Some-clause-groups
returns-in-Some-clause-groups g c =
    let p = checked_plan c.args.checked.now in
    let chunks = c.args.chunks.now in
    ap (λ (read : Read). groups_after p read c.args.groups)
    (sym (chunk_refused p chunks c.chunks.chunk-index c.chunk-item.result (all_records p chunks) c.args.groups c.chunks.groups c.fold_chunk.new.groups c.in_ok-bad.bad
    c.in-Some.bad c.chunks-test.true c.chunk-item.is c.in-Some.is c.in_ok-bad.ensures.folds c.chunks.invariant.folding))

pub chunks-preserved : goal.chunks-preserved
chunks-preserved g c =
    let p = checked_plan c.args.checked.now in
    let chunks = c.args.chunks.now in
    let next = next_chunk c.chunks.cursor chunks c.chunks.chunk-index c.chunk-item.result c.chunks-test.true c.chunk-item.is c.chunks.invariant.left in
    record {
      folding =
          chunk_folded p chunks c.chunks.chunk-index c.chunk-item.result (all_records p chunks) c.args.groups c.chunks.groups c.fold_chunk.new.groups c.in_ok-bad.bad
          c.chunks-test.true c.chunk-item.is c.in_default.is c.in_ok-bad.ensures.folds c.chunks.invariant.folding;
      left =
          where_none c.in_ok-bad.bad (Passes c.chunk-item.result.rows c.chunks.cursor c.fold_chunk.new.cursor) c.in_default.is c.in_ok-bad.ensures.passes
          (all_rows (drop (c.chunks.chunk-index + 1) chunks)) next;
    }

pub returns-clause-groups : goal.returns-clause-groups
returns-clause-groups g c =
    let p = checked_plan c.args.checked.now in
    let chunks = c.args.chunks.now in
    let past : length chunks ≤ c.chunks.chunk-index = omega (arith, c.chunks-test.false) in
    folded_groups p (all_records p chunks) (all_records p (drop c.chunks.chunk-index chunks)) c.args.groups c.chunks.groups c.chunks.invariant.folding (ap (all_records p) (drop_all c.chunks.chunk-index chunks past))

pub returns-clause-valid : goal.returns-clause-valid
returns-clause-valid g c =
    let p = checked_plan c.args.checked.now in
    let chunks = c.args.chunks.now in
    let past : length chunks ≤ c.chunks.chunk-index = omega (arith, c.chunks-test.false) in
    let made = c.chunks.invariant.folding in
    let well : IsWellFormed p = subst IsWellFormed c.plan-plan.ensures.same c.plan-plan.ensures.well_formed in
    let read = all_done p (all_records p chunks) (all_records p (drop c.chunks.chunk-index chunks)) c.args.groups c.chunks.groups made (ap (all_records p) (drop_all c.chunks.chunk-index chunks past)) in
    subst (AreValid p) (sym made.groups)
    (c.records_keep_groups_valid.ensures.many p made.done c.args.groups well (chunks_are_records p chunks made.done well c.requires.fit read) c.requires.valid)
