use Rattle.std.proofs.Common.{◌<◌, List, arith, length}
use Rattle.std.specs.Option.{unwrap_or}
use Rattle.sym_check.specs.Checking.CheckedScripts.{checked_plan}
use Rattle.sym_table.specs.ChunkRecords.{chunk_records}
use Rattle.sym_table.specs.Reading.{Row}
use Rattle.sym_table.proofs.Stepping.{no_end, one_chunk, row_read as row_is_read}
use Rattle.sym_files.specs.Rounds.{shown_chunk}
use Rattle.sym_engine_tests.proofs.Noting.{read_begins, row_is_bad, row_read}
use Rattle.sym_engine_tests.proofs.rounds.read_chunk.Goals as goal

pub rows-init : goal.rows-init
rows-init c = record {
  number = omega arith;
  walk = read_begins (chunk_records (checked_plan c.args.checked.now) (shown_chunk (unwrap_or c.args.one.now) c.args.chunk.now));
  rest = (one_chunk c.in_ok-cursor.cursor c.from_ref.result.now c.args.chunk.now c.in_ok-cursor.ensures c.from_ref.ensures.value).0;
  left = (one_chunk c.in_ok-cursor.cursor c.from_ref.result.now c.args.chunk.now c.in_ok-cursor.ensures c.from_ref.ensures.value).1;
}

pub returns-then-not-branch : goal.returns-then-not-branch
returns-then-not-branch c =
    let rows : List Row = c.args.chunk.now.rows in
    let within : c.rows._index < length rows = omega (arith, c.rows-test.true, c.len-index-end.ensures) in
    absurd (no_end c.rows.cursor c.read.new.self rows c.rows.invariant.rest c.rows._index c.read.new.row c.in_ok-read.field-0 within c.rows.invariant.left c.if-not-branch.true c.in_ok-read.ensures)

pub rows-preserved : goal.rows-preserved
rows-preserved c =
    let p = checked_plan c.args.checked.now in
    let cut = c.args.chunk.now in
    let rows : List Row = cut.rows in
    let shown = unwrap_or c.args.one.now in
    let within : c.rows._index < length rows = omega (arith, c.rows-test.true, c.len-index-end.ensures) in
    let next = row_is_read c.rows.cursor c.read.new.self rows c.rows.invariant.rest c.rows._index c.read.new.row c.view.result c.in_ok-read.field-0 within c.rows.invariant.left c.if-not-branch.false c.view.ensures c.in_ok-read.ensures in
    record {
      number = omega (arith, c.rows.invariant.number);
      walk =
          row_read p cut.header c.rows.no shown rows c.rows._index c.view.result c.shown-row.result c.in_ok-bad.field-0 c.in-Is.field-0
          (chunk_records p (shown_chunk shown cut)) next.there c.shown-row.ensures c.in_ok-bad.ensures.read c.in-Is.is c.rows.invariant.walk;
      rest = c.rows.invariant.rest;
      left = next.left_is;
    }

pub returns-in-Bad : goal.returns-in-Bad
returns-in-Bad c =
    let p = checked_plan c.args.checked.now in
    let cut = c.args.chunk.now in
    let rows : List Row = cut.rows in
    let shown = unwrap_or c.args.one.now in
    let within : c.rows._index < length rows = omega (arith, c.rows-test.true, c.len-index-end.ensures) in
    let next = row_is_read c.rows.cursor c.read.new.self rows c.rows.invariant.rest c.rows._index c.read.new.row c.view.result c.in_ok-read.field-0 within c.rows.invariant.left c.if-not-branch.false c.view.ensures c.in_ok-read.ensures in
    row_is_bad p cut.header c.rows.no shown rows c.rows._index c.view.result c.shown-row.result c.in_ok-bad.field-0 c.in-Bad.bad
    (chunk_records p (shown_chunk shown cut)) next.there c.shown-row.ensures c.in_ok-bad.ensures.read c.in-Bad.is c.rows.invariant.walk
