-- The rows of the chunks so far are copied.
use Rattle.std.proofs.Common.{◌≡◌, ◌++◌, drop}
use Rattle.sym_table.specs.ChunkRecords.{all_rows}
use Rattle.sym_table.proofs.cursor.RowCursor.listed.Given as goal

abbrev pub invariant-chunks : goal.invariant-chunks
invariant-chunks l = l.listed.items ++ all_rows (drop l.chunk-index l.chunks) ≡ all_rows l.chunks
