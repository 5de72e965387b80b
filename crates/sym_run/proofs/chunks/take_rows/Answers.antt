use Rattle.std.proofs.Common.{◌≡◌, ◌∙◌, ◌<◌, ◌≤◌, Bool, List, Some, arith, length, subst, sym, true}
use Rattle.std.specs.Prelude.{slice_get}
use Rattle.sym_check.specs.Checking.CheckedScripts.{checked_plan}
use Rattle.sym_table.specs.Reading.{Row}
use Rattle.sym_path.proofs.Lists.{take_past}
use Rattle.sym_table.proofs.Stepping.{all_passed, no_end, row_read}
use Rattle.sym_run.proofs.Taking.{IsTaking, bad_there, bad_told, extended_all, record_told, taking_none, taking_on}
use Rattle.sym_run.proofs.chunks.take_rows.Goals as goal

pub rows-init : goal.rows-init
rows-init c = record {
  taking = taking_none (checked_plan c.args.settings.now.checked.now) c.args.settings.now.limit c.args.settings.now.most c.args.chunk.now.header c.args.chunk.now.first_no c.args.map.now.entries c.requires.fits c.requires.tight;
  distinct = c.requires.distinct;
  rest = c.requires.rows.0;
  had = c.requires.rows.1;
  left = c.requires.rows.1;
}

pub returns-then-not-branch : goal.returns-then-not-branch
returns-then-not-branch c =
    let rows : List Row = c.args.chunk.now.rows in
    let within : c.rows.index < length rows = omega (arith, c.rows-test.true, c.len-index-end.ensures) in
    absurd (no_end c.rows.cursor c.read.new.self rows c.rows.invariant.rest c.rows.index c.read.new.row c.in_ok-read.field-0 within c.rows.invariant.left c.if-not-branch.true c.in_ok-read.ensures)

pub returns-then-is_some-clause-found : goal.returns-then-is_some-clause-found
returns-then-is_some-clause-found c =
    let p = checked_plan c.args.settings.now.checked.now in
    let rows : List Row = c.args.chunk.now.rows in
    let within : c.rows.index < length rows = omega (arith, c.rows-test.true, c.len-index-end.ensures) in
    let next = row_read c.rows.cursor c.read.new.self rows c.rows.invariant.rest c.rows.index c.read.new.row c.view.result c.in_ok-read.field-0 within c.rows.invariant.left c.if-not-branch.false c.view.ensures c.in_ok-read.ensures in
    bad_told p c.args.settings.now.limit c.args.settings.now.most c.args.chunk.now.header c.args.chunk.now.first_no rows c.rows.index c.view.result c.in_ok-bad.bad c.decode_into.new.into c.args.map.now.entries c.rows.map.entries
    c.rows.invariant.taking next.there (sym c.is_some.ensures ∙ c.if-is_some.true) c.in_ok-bad.ensures.read

pub rows-preserved : goal.rows-preserved
rows-preserved c =
    let p = checked_plan c.args.settings.now.checked.now in
    let rows : List Row = c.args.chunk.now.rows in
    let within : c.rows.index < length rows = omega (arith, c.rows-test.true, c.len-index-end.ensures) in
    let next = row_read c.rows.cursor c.read.new.self rows c.rows.invariant.rest c.rows.index c.read.new.row c.view.result c.in_ok-read.field-0 within c.rows.invariant.left c.if-not-branch.false c.view.ensures c.in_ok-read.ensures in
    record {
      taking =
          taking_on p c.args.settings.now.limit c.args.settings.now.most c.args.chunk.now.header c.args.chunk.now.first_no rows c.rows.index c.view.result c.decode_into.new.into c.args.map.now.entries c.rows.map.entries c.take_record.new.map.entries
          c.rows.invariant.taking next.there
          (record_told c.in_ok-bad.bad c.decode_into.new.into _ (sym c.is_some.ensures ∙ c.if-is_some.false) c.in_ok-bad.ensures.read)
          c.in_ok-take_record.ensures.grows c.in_ok-take_record.ensures.extends;
      distinct = c.take_record.ensures.distinct;
      rest = c.rows.invariant.rest;
      had = c.rows.invariant.had;
      left = next.left_is;
    }

pub returns-clause-passes : goal.returns-clause-passes
returns-clause-passes c =
    let rows : List Row = c.args.chunk.now.rows in
    let past : length rows ≤ c.rows.index = omega (arith, c.rows-test.false, c.len-index-end.ensures) in
    all_passed c.args.cursor.now c.rows.cursor rows c.rows.invariant.rest c.rows.index past c.rows.invariant.had c.rows.invariant.left

pub take_record-requires-clause-reads : goal.take_record-requires-clause-reads
take_record-requires-clause-reads c = λ i named.
    subst (λ (marks : List Bool). slice_get marks i ≡ Some true) (sym c.as_slice.ensures.value) ((c.in_ok-reads.ensures.names i).1 named)

pub returns-then-is_some-clause-extends : goal.returns-then-is_some-clause-extends
returns-then-is_some-clause-extends c = λ before records none all extended.
    let p = checked_plan c.args.settings.now.checked.now in
    let rows : List Row = c.args.chunk.now.rows in
    let within : c.rows.index < length rows = omega (arith, c.rows-test.true, c.len-index-end.ensures) in
    let next = row_read c.rows.cursor c.read.new.self rows c.rows.invariant.rest c.rows.index c.read.new.row c.view.result c.in_ok-read.field-0 within c.rows.invariant.left c.if-not-branch.false c.view.ensures c.in_ok-read.ensures in
    absurd (bad_there p c.args.settings.now.limit c.args.settings.now.most c.args.chunk.now.header c.args.chunk.now.first_no rows c.rows.index c.view.result c.in_ok-bad.bad c.decode_into.new.into c.args.map.now.entries c.rows.map.entries records
    c.rows.invariant.taking next.there (sym c.is_some.ensures ∙ c.if-is_some.true) c.in_ok-bad.ensures.read all)

pub returns-clause-extends : goal.returns-clause-extends
returns-clause-extends c = λ before records none all extended.
    let p = checked_plan c.args.settings.now.checked.now in
    let rows : List Row = c.args.chunk.now.rows in
    let past : length rows ≤ c.rows.index = omega (arith, c.rows-test.false, c.len-index-end.ensures) in
    extended_all p c.args.settings.now.limit c.args.settings.now.most c.args.chunk.now.header c.args.chunk.now.first_no rows c.args.map.now.entries c.rows.map.entries before records
    (subst (λ (rs : List Row). IsTaking p c.args.settings.now.limit c.args.settings.now.most c.args.chunk.now.header c.args.chunk.now.first_no rs c.args.map.now.entries c.rows.map.entries) (take_past rows c.rows.index past) c.rows.invariant.taking)
    none all extended
