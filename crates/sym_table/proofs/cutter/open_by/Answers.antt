use Rattle.std.proofs.Common.{◌∙◌, ap, arith, drop, sym, ◌≤◌, ◌+◌, Some, length}
use Rattle.sym_rows.specs.Rows.{rows_of}
use Rattle.sym_table.specs.FileRows.{csv_rows, file_rows}
use Rattle.sym_table.proofs.Marks.{strip_less}
use Rattle.sym_table.proofs.Openings.{room}
use Rattle.sym_table.proofs.Raws.{heads_rest, opened}
use Rattle.sym_table.proofs.cutter.open_by.Goals as goal

pub after_first-requires : goal.after_first-requires
after_first-requires c =
    let rows = csv_rows c.without_mark-bytes.result.now in
    let reads = rw c.over-reader.ensures.rows at c.in_ok-header.ensures.reads in
    heads_rest c.as_slice.result.now rows c.read_header.new.reader c.in_ok-header.header reads
    ∙ ap (λ xs. Some (drop 1 (rows_of xs))) (sym c.without_mark.ensures)

pub invariant_of-result : goal.invariant_of-result
invariant_of-result c =
    let less = strip_less c.args.bytes.now in
    let same = ap length c.without_mark-bytes.ensures in
    let size = c.requires.size in
    let first = c.requires.first in
    let rows = csv_rows c.without_mark-bytes.result.now in
    let few : length rows ≤ length c.without_mark-bytes.result.now + 1 = rw c.over-reader.ensures.rows at c.over-reader.ensures.few in
    let reads = rw c.over-reader.ensures.rows at c.in_ok-header.ensures.reads in
    record {
      some = c.requires.some;
      most = c.requires.most;
      room = rw c.after_first.ensures (room c.as_slice.result.now rows c.read_header.new.reader c.in_ok-header.header c.args.first_no 268435457 9223372036854775808 reads (omega arith) (omega arith));
    }

pub returns-clause-opens : goal.returns-clause-opens
returns-clause-opens c =
    let rows = csv_rows c.without_mark-bytes.result.now in
    let reads = rw c.over-reader.ensures.rows at c.in_ok-header.ensures.reads in
    opened c.as_slice.result.now c.args.plan.now.fields rows (file_rows c.args.bytes.now) c.read_header.new.reader c.after_first.result c.in_ok-header.header c.args.first_no c.args.chunk
    (sym c.as_slice.ensures) (ap csv_rows (sym c.without_mark-bytes.ensures)) c.after_first.ensures reads
