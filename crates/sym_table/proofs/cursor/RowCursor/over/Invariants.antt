-- The bytes of the chunks so far are the pieces.
use Rattle.std.proofs.Common.{◌≡◌, ◌<◌, ◌++◌, drop, length, map}
use Rattle.std.specs.List.{All, concat, flat_map}
use Rattle.sym_rows.specs.Rows.{IsPiece, rows_of}
use Rattle.sym_table.specs.ChunkRecords.{all_rows}
use Rattle.sym_table.proofs.cursor.RowCursor.over.Given as goal

abbrev pub invariant-chunks : goal.invariant-chunks
invariant-chunks l = record {
  pieces : All IsPiece (map (λ piece. piece.now) l.pieces.items);
  size : l.size ≡ length (concat (map (λ piece. piece.now) l.pieces.items));
  few : l.size < 9223372036854775808;
  rows : flat_map rows_of (map (λ piece. piece.now) l.pieces.items) ++ all_rows (drop l.chunk-index l.chunks) ≡ all_rows l.chunks;
}
