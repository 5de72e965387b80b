-- The bytes that are left stay the same.
use Rattle.std.proofs.Common.{◌≡◌, ◌-◌, length}
use Rattle.sym_rows.specs.Pieces.{pieces_left}
use Rattle.sym_rows.proofs.pieces.Pieces.go_on.Given as goal

abbrev pub invariant-pieces : goal.invariant-pieces
invariant-pieces l = pieces_left l.self ≡ pieces_left l.fn.self

abbrev pub decreases-pieces : goal.decreases-pieces
decreases-pieces l = length l.self.all.items - l.self.begun
