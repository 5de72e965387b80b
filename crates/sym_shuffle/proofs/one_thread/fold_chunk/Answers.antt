use Rattle.std.proofs.Common.{◌∙◌, ◌<◌, ◌≤◌, List, ap, arith, length, refl, sym}
use Rattle.std.proofs.lemmas.List.{drop_all}
use Rattle.sym_check.specs.Checking.CheckedScripts.{checked_plan}
use Rattle.sym_table.specs.ChunkRecords.{chunk_records}
use Rattle.sym_table.specs.Reading.{Row}
use Rattle.sym_table.specs.RowRecords.{records_or_bad}
use Rattle.sym_table.proofs.Stepping.{all_passed, no_end, row_read}
use Rattle.sym_shuffle.proofs.FoldedRows.{found_none, found_some, folds_all, row_folded, row_refused}
use Rattle.sym_shuffle.proofs.one_thread.fold_chunk.Goals as goal

pub returns-then-not-branch-clause-folds : goal.returns-then-not-branch-clause-folds
returns-then-not-branch-clause-folds c =
    let rows : List Row = c.args.chunk.now.rows in
    let within : c.rows._index < length rows = omega (arith, c.rows-test.true, c.len-index-end.ensures) in
    absurd (no_end c.rows.cursor c.read.new.self rows c.rows.invariant.rest c.rows._index c.read.new.row c.in_ok-read.field-0 within c.rows.invariant.left c.if-not-branch.true c.in_ok-read.ensures)

pub returns-then-not-branch-clause-passes : goal.returns-then-not-branch-clause-passes
returns-then-not-branch-clause-passes c =
    let rows : List Row = c.args.chunk.now.rows in
    let within : c.rows._index < length rows = omega (arith, c.rows-test.true, c.len-index-end.ensures) in
    absurd (no_end c.rows.cursor c.read.new.self rows c.rows.invariant.rest c.rows._index c.read.new.row c.in_ok-read.field-0 within c.rows.invariant.left c.if-not-branch.true c.in_ok-read.ensures)

pub returns-then-is_some-clause-folds : goal.returns-then-is_some-clause-folds
returns-then-is_some-clause-folds c =
    let p = checked_plan c.args.checked.now in
    let cut = c.args.chunk.now in
    let rows : List Row = cut.rows in
    let within : c.rows._index < length rows = omega (arith, c.rows-test.true, c.len-index-end.ensures) in
    let next = row_read c.rows.cursor c.read.new.self rows c.rows.invariant.rest c.rows._index c.read.new.row c.view-view.result c.in_ok-read.field-0 within c.rows.invariant.left c.if-not-branch.false c.view-view.ensures c.in_ok-read.ensures in
    let some = found_some c.in_ok-bad.bad (sym c.is_some.ensures ∙ c.if-is_some.true) in
    row_refused p cut.header c.rows.no rows c.rows._index c.view-view.result (chunk_records p cut) c.args.groups.now c.rows.groups c.in_ok-bad.bad c.decode_into.new.into
    some.0 c.rows.groups next.there some.1 c.in_ok-bad.ensures.read c.rows.invariant.folding

pub rows-preserved : goal.rows-preserved
rows-preserved c =
    let p = checked_plan c.args.checked.now in
    let cut = c.args.chunk.now in
    let rows : List Row = cut.rows in
    let within : c.rows._index < length rows = omega (arith, c.rows-test.true, c.len-index-end.ensures) in
    let next = row_read c.rows.cursor c.read.new.self rows c.rows.invariant.rest c.rows._index c.read.new.row c.view-view.result c.in_ok-read.field-0 within c.rows.invariant.left c.if-not-branch.false c.view-view.ensures c.in_ok-read.ensures in
    record {
      number = omega (arith, c.rows.invariant.number);
      folding =
          row_folded p cut.header c.rows.no rows c.rows._index c.view-view.result (chunk_records p cut) c.args.groups.now c.rows.groups c.in_ok-bad.bad c.decode_into.new.into
          c.fold_into.new.groups next.there (found_none c.in_ok-bad.bad (sym c.is_some.ensures ∙ c.if-is_some.false)) c.in_ok-bad.ensures.read c.in_ok-fold_into.ensures.groups c.rows.invariant.folding;
      rest = c.rows.invariant.rest;
      had = c.rows.invariant.had;
      left = next.left_is;
    }

pub returns-clause-folds : goal.returns-clause-folds
returns-clause-folds c =
    let p = checked_plan c.args.checked.now in
    let cut = c.args.chunk.now in
    let rows : List Row = cut.rows in
    let past : length rows ≤ c.rows._index = omega (arith, c.rows-test.false, c.len-index-end.ensures) in
    folds_all p (chunk_records p cut) (records_or_bad p cut.header c.rows.no _) c.args.groups.now c.rows.groups _ c.rows.invariant.folding
    (ap (records_or_bad p cut.header c.rows.no) (drop_all c.rows._index rows past)) refl

pub returns-clause-passes : goal.returns-clause-passes
returns-clause-passes c =
    let rows : List Row = c.args.chunk.now.rows in
    let past : length rows ≤ c.rows._index = omega (arith, c.rows-test.false, c.len-index-end.ensures) in
    all_passed c.args.cursor.now c.rows.cursor rows c.rows.invariant.rest c.rows._index past c.rows.invariant.had c.rows.invariant.left
