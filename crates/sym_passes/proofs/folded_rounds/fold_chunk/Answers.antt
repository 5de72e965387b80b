use Rattle.std.proofs.Common.{◌<◌, ◌≤◌, List, arith, length}
use Rattle.sym_check.specs.Checking.CheckedScripts.{checked_plan}
use Rattle.sym_table.specs.ChunkRecords.{chunk_records}
use Rattle.sym_table.specs.Reading.{Row}
use Rattle.sym_table.proofs.Stepping.{all_passed, no_end, row_read}
use Rattle.sym_passes.proofs.Folds.{row_folded, row_refused}
use Rattle.sym_passes.proofs.folded_rounds.fold_chunk.Goals as goal

pub returns-then-not-branch : goal.returns-then-not-branch
returns-then-not-branch c =
    let rows : List Row = c.args.chunk.now.rows in
    let within : c.rows._index < length rows = omega (arith, c.rows-test.true, c.len-index-end.ensures) in
    absurd (no_end c.rows.cursor c.read.new.self rows c.rows.invariant.rest c.rows._index c.read.new.row c.in_ok-read.field-0 within c.rows.invariant.left c.if-not-branch.true c.in_ok-read.ensures)

pub rows-preserved : goal.rows-preserved
rows-preserved c =
    let p = checked_plan c.args.checked.now in
    let cut = c.args.chunk.now in
    let rows : List Row = cut.rows in
    let within : c.rows._index < length rows = omega (arith, c.rows-test.true, c.len-index-end.ensures) in
    let next = row_read c.rows.cursor c.read.new.self rows c.rows.invariant.rest c.rows._index c.read.new.row c.view.result c.in_ok-read.field-0 within c.rows.invariant.left c.if-not-branch.false c.view.ensures c.in_ok-read.ensures in
    record {
      number = omega (arith, c.rows.invariant.number);
      walk =
          row_folded p cut.header c.rows.no rows c.rows._index c.view.result c.in_ok-bad.field-0 c.decode_into.new.into (chunk_records p cut)
          c.args.folded.now.groups c.rows.folded.groups c.fold_into.new.groups next.there c.in-None.is c.in_ok-bad.ensures.read
          c.in_ok-fold_into-in-None.ensures.pass c.rows.invariant.walk;
      rest = c.rows.invariant.rest;
      had = c.rows.invariant.had;
      left = next.left_is;
    }

pub returns-in-Some-clause-takes : goal.returns-in-Some-clause-takes
returns-in-Some-clause-takes c =
    let p = checked_plan c.args.checked.now in
    let cut = c.args.chunk.now in
    let rows : List Row = cut.rows in
    let within : c.rows._index < length rows = omega (arith, c.rows-test.true, c.len-index-end.ensures) in
    let next = row_read c.rows.cursor c.read.new.self rows c.rows.invariant.rest c.rows._index c.read.new.row c.view.result c.in_ok-read.field-0 within c.rows.invariant.left c.if-not-branch.false c.view.ensures c.in_ok-read.ensures in
    row_refused p cut.header c.rows.no rows c.rows._index c.view.result c.in_ok-bad.field-0 c.in-Some.bad c.decode_into.new.into (chunk_records p cut)
    c.args.folded.now.groups c.rows.folded.groups next.there c.in-Some.is c.in_ok-bad.ensures.read c.rows.invariant.walk

pub returns-clause-passes : goal.returns-clause-passes
returns-clause-passes c =
    let rows : List Row = c.args.chunk.now.rows in
    let past : length rows ≤ c.rows._index = omega (arith, c.rows-test.false, c.len-index-end.ensures) in
    all_passed c.args.cursor.now c.rows.cursor rows c.rows.invariant.rest c.rows._index past c.rows.invariant.had c.rows.invariant.left
