use Rattle.std.proofs.Common.{◌+◌, ◌≤◌, IfNone, Option, ap, arith, drop, length, refl, subst}
use Rattle.std.proofs.lemmas.List.{drop_all}
use Rattle.sym_check.specs.Checking.CheckedScripts.{checked_plan}
use Rattle.sym_table.specs.ChunkRecords.{all_records, all_rows, chunk_records}
use Rattle.sym_table.specs.Reading.{Passes}
use Rattle.sym_table.specs.declared.bad.Bad.{Bad as BadRow}
use Rattle.sym_table.proofs.Stepping.{next_chunk}
use Rattle.sym_scan.proofs.Found.{Found}
use Rattle.sym_scan.proofs.ReplaySteps.{IsReplaying, chunks_next, replaying_all, replaying_bad, replaying_none, replaying_on, replaying_stops}
use Rattle.sym_scan.proofs.replays.take_chunks.Goals as goal

pub chunks-init : goal.chunks-init
chunks-init c =
    let p = checked_plan c.args.checked.now in
    record {
      replaying = replaying_none p c.args.every (all_records p c.args.chunks.now) c.args.progress.now.groups c.args.progress.now.rows.items c.args.progress.now refl refl;
      left = c.in_ok-cursor.ensures;
    }

pub take_rows-requires-clause-rows : goal.take_rows-requires-clause-rows
take_rows-requires-clause-rows c =
    let chunks = c.args.chunks.now in
    (all_rows (drop (c.chunks.chunk-index + 1) chunks), next_chunk c.chunks.cursor chunks c.chunks.chunk-index c.chunk-item.result c.chunks-test.true c.chunk-item.is c.chunks.invariant.left)

pub returns-in-Some : goal.returns-in-Some
returns-in-Some c =
    let p = checked_plan c.args.checked.now in
    let chunks = c.args.chunks.now in
    let found = all_records p chunks in
    replaying_stops p c.args.every found c.in-Some.bad c.args.progress.now c.take_rows.new.progress
    (replaying_bad p c.args.every found (chunk_records p c.chunk-item.result) (all_records p (drop (c.chunks.chunk-index + 1) chunks)) c.in_ok-taken.taken c.in-Some.bad c.args.progress.now.groups c.args.progress.now.rows.items c.chunks.progress c.take_rows.new.progress c.in-Some.is
    (subst (λ (rest : Found). IsReplaying p c.args.every found rest c.args.progress.now.groups c.args.progress.now.rows.items c.chunks.progress) (chunks_next p chunks c.chunks.chunk-index c.chunk-item.result c.chunks-test.true c.chunk-item.is) c.chunks.invariant.replaying)
    c.in_ok-taken.ensures.goes)

pub chunks-preserved : goal.chunks-preserved
chunks-preserved c =
    let p = checked_plan c.args.checked.now in
    let chunks = c.args.chunks.now in
    let found = all_records p chunks in
    let next = next_chunk c.chunks.cursor chunks c.chunks.chunk-index c.chunk-item.result c.chunks-test.true c.chunk-item.is c.chunks.invariant.left in
    let passes = subst (λ (bad : Option BadRow). IfNone bad (Passes c.chunk-item.result.rows c.chunks.cursor c.take_rows.new.cursor)) c.in_default.is c.in_ok-taken.ensures.passes in
    record {
      replaying = replaying_on p c.args.every found (chunk_records p c.chunk-item.result) (all_records p (drop (c.chunks.chunk-index + 1) chunks)) c.in_ok-taken.taken c.args.progress.now.groups c.args.progress.now.rows.items c.chunks.progress c.take_rows.new.progress c.in_default.is
          (subst (λ (rest : Found). IsReplaying p c.args.every found rest c.args.progress.now.groups c.args.progress.now.rows.items c.chunks.progress) (chunks_next p chunks c.chunks.chunk-index c.chunk-item.result c.chunks-test.true c.chunk-item.is) c.chunks.invariant.replaying)
          c.in_ok-taken.ensures.goes;
      left = passes (all_rows (drop (c.chunks.chunk-index + 1) chunks)) next;
    }

pub returns : goal.returns
returns c =
    let p = checked_plan c.args.checked.now in
    let chunks = c.args.chunks.now in
    let past : length chunks ≤ c.chunks.chunk-index = omega (arith, c.chunks-test.false) in
    replaying_all p c.args.every (all_records p chunks) (all_records p (drop c.chunks.chunk-index chunks)) c.args.progress.now c.chunks.progress (ap (all_records p) (drop_all c.chunks.chunk-index chunks past)) c.chunks.invariant.replaying
