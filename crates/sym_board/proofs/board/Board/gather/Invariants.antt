use Rattle.std.proofs.Common.{◌≡◌, ◌<◌, All, None, false, length}
use Rattle.sym_board.specs.Passes.{hand, has_ended, claims, IsPassOf}
use Rattle.sym_board.proofs.Calls.Gathering.{Counted}
use Rattle.sym_board.proofs.board.Board.gather.Given as goal

abbrev pub invariant-passes : goal.invariant-passes
invariant-passes g l = record {
  table : l.seat.table_id ≡ l.self.table.shared.table_id;
  some_pass : 0 < l.seat.me.0.passes;
  of : All (λ p. IsPassOf l.self p) l.passes.items;
  counted : All (λ p. hand p ≡ None) l.fn.passes.items → Counted (λ p. hand p ≡ None) (λ p. has_ended p ≡ false) claims l.fn.passes.items l.passes.items l.seat.me.0.hand l.seat.me.0.passes l.seat.me.0.claimed l.seat.me.0.ended;
}

abbrev pub decreases-passes : goal.decreases-passes
decreases-passes g l = length l.passes.items
