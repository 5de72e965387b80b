use Rattle.std.proofs.Common.{◌≤◌, ◌∙◌, ◌++◌, [], ap, arith, length, sym}
use Rattle.std.proofs.lemmas.List.{drop_all}
use Rattle.sym_rows.specs.Rows.{rows_of}
use Rattle.sym_rows.proofs.Parts.{no_rows, unmarked}
use Rattle.sym_table.specs.ChunkRecords.{all_rows}
use Rattle.sym_table.proofs.Cursors.{none_left}
use Rattle.sym_table.proofs.cursor.RowCursor.listed.Goals as goal

pub returns : goal.returns
returns c =
    let chunks = c.args.chunks.now in
    let past : length chunks ≤ c.chunks.chunk-index = omega arith in
    none_left c.chunks.listed.items _ (all_rows chunks) c.over.result c.over.ensures.rows (ap rows_of (unmarked [] tt) ∙ no_rows)
    (ap (λ cuts. c.chunks.listed.items ++ all_rows cuts) (sym (drop_all c.chunks.chunk-index chunks past)) ∙ c.chunks.invariant)
