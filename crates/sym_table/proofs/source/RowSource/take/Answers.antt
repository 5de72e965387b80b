use Rattle.sym_table.proofs.Raws.{piece_taken}
use Rattle.sym_table.proofs.source.RowSource.take.Goals as goal

pub returns-in-Ok : goal.returns-in-Ok
returns-in-Ok c =
    piece_taken c.self.inside.bytes.now c.self.inside.at c.args.count c.next_piece-piece.result c.self.inside.by_reader c.self.inside.reader c.args.self.now c.set_raw.new.self
    c.if-self.false c.self.view_is c.next_piece-piece.ensures c.in-Ok.ensures.ok
