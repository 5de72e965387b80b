use Rattle.std.proofs.Common.{◌-◌}
use Rattle.sym_board.specs.Passes.{hand, board_leaves, IsPassOf, StandsForHand, KeepsClaims, span_len}
use Rattle.sym_board.proofs.Calls.Climbing.{Way}
use Rattle.sym_board.proofs.board.Board.carry.Given as goal

abbrev pub invariant-levels : goal.invariant-levels
invariant-levels g l = record {
  of : IsPassOf l.self l.pass;
  held : StandsForHand g.P.Piece.stands_for l.self l.pass l.piece;
  claims : KeepsClaims l.initial.pass l.pass;
  way : Way (board_leaves l.self) (hand l.initial.pass) (hand l.pass);
}

abbrev pub decreases-levels : goal.decreases-levels
decreases-levels g l = board_leaves l.self - span_len (hand l.pass)
