use Rattle.std.proofs.Common.{◌∙◌, ◌<◌, ◌≤◌, List, arith, length, sym}
use Rattle.std.proofs.lemmas.Option.{get_or_from_slice_get}
use Rattle.sym_check.specs.Checking.CheckedScripts.{checked_plan}
use Rattle.sym_table.specs.ChunkRecords.{chunk_records}
use Rattle.sym_table.specs.Reading.{Row}
use Rattle.sym_table.proofs.Stepping.{all_passed, no_end, row_read}
use Rattle.sym_scan.proofs.ReplaySteps.{record_taken, row_bad, row_replayed}
use Rattle.sym_scan.proofs.replays.take_rows.Goals as goal

pub returns-then-not-branch : goal.returns-then-not-branch
returns-then-not-branch c =
    let rows : List Row = c.args.chunk.now.rows in
    let within : c.rows.index < length rows = omega (arith, c.rows-test.true, c.len-index-end.ensures) in
    absurd (no_end c.rows.cursor c.read.new.self rows c.rows.invariant.rest c.rows.index c.read.new.row c.in_ok-read.field-0 within c.rows.invariant.left c.if-not-branch.true c.in_ok-read.ensures)

pub rows-preserved : goal.rows-preserved
rows-preserved c =
    let p = checked_plan c.args.script.now.checked.now in
    let cut = c.args.chunk.now in
    let rows : List Row = cut.rows in
    let within : c.rows.index < length rows = omega (arith, c.rows-test.true, c.len-index-end.ensures) in
    let next = row_read c.rows.cursor c.read.new.self rows c.rows.invariant.rest c.rows.index c.read.new.row c.view.result c.in_ok-read.field-0 within c.rows.invariant.left c.if-not-branch.false c.view.ensures c.in_ok-read.ensures in
    let is = sym (get_or_from_slice_get rows c.rows.index c.view.result c.view.result next.there) in
    record {
      replaying =
          row_replayed p c.args.script.now.every cut.header cut.first_no c.rows.index rows c.view.result c.in_ok-bad.bad c.decode_into.new.into (chunk_records p cut)
          c.args.progress.now.groups c.args.progress.now.rows.items c.rows.progress c.take_record.new.progress within is (sym c.is_some.ensures ∙ c.if-is_some.false) c.in_ok-bad.ensures.read
          (record_taken p c.args.script.now.every c.decode_into.new.into c.rows.progress c.take_record.new.progress c.in_ok-take_record.ensures.groups c.in_ok-take_record.ensures.rows)
          c.rows.invariant.replaying;
      rest = c.rows.invariant.rest;
      had = c.rows.invariant.had;
      left = next.left_is;
    }

pub returns-then-is_some-clause-goes : goal.returns-then-is_some-clause-goes
returns-then-is_some-clause-goes c =
    let p = checked_plan c.args.script.now.checked.now in
    let cut = c.args.chunk.now in
    let rows : List Row = cut.rows in
    let within : c.rows.index < length rows = omega (arith, c.rows-test.true, c.len-index-end.ensures) in
    let next = row_read c.rows.cursor c.read.new.self rows c.rows.invariant.rest c.rows.index c.read.new.row c.view.result c.in_ok-read.field-0 within c.rows.invariant.left c.if-not-branch.false c.view.ensures c.in_ok-read.ensures in
    let is = sym (get_or_from_slice_get rows c.rows.index c.view.result c.view.result next.there) in
    row_bad p c.args.script.now.every cut.header cut.first_no c.rows.index rows c.view.result c.in_ok-bad.bad c.decode_into.new.into (chunk_records p cut)
    c.args.progress.now c.rows.progress _ within is (sym c.is_some.ensures ∙ c.if-is_some.true) c.in_ok-bad.ensures.read c.rows.invariant.replaying

pub returns-clause-passes : goal.returns-clause-passes
returns-clause-passes c =
    let rows : List Row = c.args.chunk.now.rows in
    let past : length rows ≤ c.rows.index = omega (arith, c.rows-test.false, c.len-index-end.ensures) in
    all_passed c.args.cursor.now c.rows.cursor rows c.rows.invariant.rest c.rows.index past c.rows.invariant.had c.rows.invariant.left
