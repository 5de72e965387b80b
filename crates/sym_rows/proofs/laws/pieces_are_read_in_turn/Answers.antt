use Rattle.std.proofs.Common.{List, ℕ, ap}
use Rattle.sym_rows.specs.Rows.{rows_of}
use Rattle.sym_rows.proofs.Parts.{pieces_piece, pieces_rows, unmarked}
use Rattle.sym_rows.proofs.laws.pieces_are_read_in_turn.Goals as goal

pub returns : goal.returns
returns c = record { rows = pieces_rows; piece = pieces_piece; no_mark = λ (bytes : List ℕ) h. ap rows_of (unmarked bytes h) }
