use Rattle.std.proofs.Common.{arith, drop}
use Rattle.sym_table.specs.ChunkRecords.{all_rows}
use Rattle.sym_table.proofs.Cursors.{AreCollected, bytes_of, collected}
use Rattle.sym_table.proofs.cursor.RowCursor.over.Goals as goal

pub chunks-preserved : goal.chunks-preserved
chunks-preserved c =
    let chunks = c.args.chunks.now in
    let inv = c.chunks.invariant in
    let so : AreCollected (bytes_of c.chunks.pieces.items) c.chunks.size (all_rows (drop c.chunks.chunk-index chunks)) (all_rows chunks) =
    record { pieces_are = inv.pieces; size_is = inv.size; rows_are = inv.rows } in
    let more = collected c.chunks.pieces.items c.push.new.self.items c.in-Some.bytes c.chunks.size c.in_ok-size-in-Some.size chunks c.chunks.chunk-index c.chunk-item.result
    c.in_ok-push-in-Some.ensures.items c.in_ok-size-in-Some.ensures.0 c.chunks-test.true c.chunk-item.is c.in-Some.ensures so in
    record {
      pieces = more.pieces_are;
      size = more.size_is;
      few = c.in_ok-size-in-Some.ensures.1;
      rows = more.rows_are;
    }
