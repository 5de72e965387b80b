use Rattle.std.proofs.Common.{◌∙◌, ◌<◌, ◌≤◌, List, Option, Some, None, IfNone, ap, arith, drop, length, refl, sym}
use Rattle.std.proofs.lemmas.List.{drop_all}
use Rattle.sym_check.specs.Checking.CheckedScripts.{checked_plan}
use Rattle.sym_table.specs.ChunkRecords.{chunk_records}
use Rattle.sym_table.specs.Reading.{Row}
use Rattle.sym_table.specs.RowRecords.{records_or_bad}
use Rattle.sym_table.proofs.Stepping.{all_passed, no_end, row_read}
use Rattle.sym_shuffle.specs.declared.dealt.Dealt.{Dealt}
use Rattle.sym_shuffle.proofs.DealtRows.{row_dealt, row_refused, rows_dealt}
use Rattle.sym_shuffle.proofs.dealt.deal_chunk.Goals as goal

none_as_is : {A P : Type 0} (o : Option A) → P → IfNone o P
none_as_is None h = h
none_as_is (Some x) h = tt

pub returns-then-not-branch-clause-dealt : goal.returns-then-not-branch-clause-dealt
returns-then-not-branch-clause-dealt c =
    let rows : List Row = c.args.chunk.now.rows in
    let within : c.rows._index < length rows = omega (arith, c.rows-test.true, c.len-index-end.ensures) in
    absurd (no_end c.rows.cursor c.read.new.self rows c.rows.invariant.rest c.rows._index c.read.new.row c.in_ok-read.field-0 within c.rows.invariant.left c.if-not-branch.true c.in_ok-read.ensures)

pub returns-then-not-branch-clause-passes : goal.returns-then-not-branch-clause-passes
returns-then-not-branch-clause-passes c =
    let rows : List Row = c.args.chunk.now.rows in
    let within : c.rows._index < length rows = omega (arith, c.rows-test.true, c.len-index-end.ensures) in
    absurd (no_end c.rows.cursor c.read.new.self rows c.rows.invariant.rest c.rows._index c.read.new.row c.in_ok-read.field-0 within c.rows.invariant.left c.if-not-branch.true c.in_ok-read.ensures)

pub returns-then-is_some-clause-dealt : goal.returns-then-is_some-clause-dealt
returns-then-is_some-clause-dealt c = λ done was.
    let p = checked_plan c.args.dealer.now.checked.now in
    let cut = c.args.chunk.now in
    let rows : List Row = cut.rows in
    let within : c.rows._index < length rows = omega (arith, c.rows-test.true, c.len-index-end.ensures) in
    let next = row_read c.rows.cursor c.read.new.self rows c.rows.invariant.rest c.rows._index c.read.new.row c.view-view.result c.in_ok-read.field-0 within c.rows.invariant.left c.if-not-branch.false c.view-view.ensures c.in_ok-read.ensures in
    let new : Dealt = record { batch = c.rows.dealt.batch; new = c.rows.dealt.new; bad = c.in_ok-bad.bad } in
    row_refused p c.args.dealer.now.marks.now c.args.dealer.now.groups.now cut.header c.rows.no rows c.rows._index c.view-view.result c.in_ok-bad.bad c.decode_into.new.into (chunk_records p cut) c.args.dealt.now c.rows.dealt new
    next.there (sym c.is_some.ensures ∙ c.if-is_some.true) c.in_ok-bad.ensures.read refl c.rows.invariant.dealt done

pub rows-preserved : goal.rows-preserved
rows-preserved c =
    let p = checked_plan c.args.dealer.now.checked.now in
    let cut = c.args.chunk.now in
    let rows : List Row = cut.rows in
    let within : c.rows._index < length rows = omega (arith, c.rows-test.true, c.len-index-end.ensures) in
    let next = row_read c.rows.cursor c.read.new.self rows c.rows.invariant.rest c.rows._index c.read.new.row c.view-view.result c.in_ok-read.field-0 within c.rows.invariant.left c.if-not-branch.false c.view-view.ensures c.in_ok-read.ensures in
    record {
      number = omega (arith, c.rows.invariant.number);
      dealt =
          row_dealt p c.args.dealer.now.marks.now c.args.dealer.now.groups.now cut.header c.rows.no rows c.rows._index c.view-view.result c.in_ok-bad.bad c.decode_into.new.into (chunk_records p cut) c.args.dealt.now c.rows.dealt c.push.new.dealt
          next.there (sym c.is_some.ensures ∙ c.if-is_some.false) c.in_ok-bad.ensures.read c.in_ok-push.ensures c.rows.invariant.dealt;
      rest = c.rows.invariant.rest;
      had = c.rows.invariant.had;
      left = next.left_is;
    }

pub returns-clause-dealt : goal.returns-clause-dealt
returns-clause-dealt c =
    let p = checked_plan c.args.dealer.now.checked.now in
    let cut = c.args.chunk.now in
    let rows : List Row = cut.rows in
    let past : length rows ≤ c.rows._index = omega (arith, c.rows-test.false, c.len-index-end.ensures) in
    rows_dealt p c.args.dealer.now.marks.now c.args.dealer.now.groups.now (chunk_records p cut) (records_or_bad p cut.header c.rows.no (drop c.rows._index rows)) c.args.dealt.now c.rows.dealt
    (ap (records_or_bad p cut.header c.rows.no) (drop_all c.rows._index rows past)) c.rows.invariant.dealt

pub returns-clause-passes : goal.returns-clause-passes
returns-clause-passes c =
    let rows : List Row = c.args.chunk.now.rows in
    let past : length rows ≤ c.rows._index = omega (arith, c.rows-test.false, c.len-index-end.ensures) in
    none_as_is c.rows.dealt.bad (all_passed c.args.cursor.now c.rows.cursor rows c.rows.invariant.rest c.rows._index past c.rows.invariant.had c.rows.invariant.left)
