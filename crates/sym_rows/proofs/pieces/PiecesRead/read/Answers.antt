use Rattle.std.proofs.Common.{arith, refl, drop, length, map, min}
use Rattle.std.specs.List.{concat}
use Rattle.sym_rows.proofs.PieceReads.{consumed}
use Rattle.sym_rows.specs.Pieces.{pieces_left}
use Rattle.sym_rows.proofs.pieces.PiecesRead.read.Goals as goal

pub returns-clause-bytes : goal.returns-clause-bytes
returns-clause-bytes c =
    let mid = c.go_on.new.self.now.now in
    let later = concat (map (λ piece. piece.now) (drop c.go_on.new.self.begun c.go_on.new.self.all.items)) in
    consumed (pieces_left c.args.self.now) mid c.read.new.self.now later c.read.new.buf (min (length mid) (length c.args.buf.now)) (length c.args.buf.now) c.read.result
    c.read.ensures.count refl (let same = c.read.auto.buf in omega arith) c.go_on.ensures.left c.go_on.ensures.end c.read.ensures.bytes
