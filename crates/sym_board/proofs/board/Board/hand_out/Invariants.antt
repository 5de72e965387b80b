use Rattle.std.proofs.Common.{◌≡◌, ◌+◌, All, vec_len, Some, None, []}
use Rattle.sym_board.specs.Passes.{IsNewPassOf}
use Rattle.sym_board.proofs.board.Board.hand_out.Given as goal

abbrev pub invariant-passes : goal.invariant-passes
invariant-passes g l = record {
  table : l.seat.table_id ≡ l.self.table.shared.table_id;
  slots : l.seat.me.1 ≡ [];
  input : l.seat.me.0.input ≡ Some l.self.table.shared.key.input.value;
  leaves : l.seat.me.0.leaves ≡ l.self.leaves;
  seats : l.seat.me.0.seats ≡ l.self.seats;
  empty : l.seat.me.0.hand ≡ None;
  no_claim : l.seat.me.0.claimed ≡ 0;
  no_end : l.seat.me.0.ended ≡ 0;
  count : l.seat.me.0.passes + l._pass ≡ l.self.seats + 1;
  made : vec_len l.passes + 1 ≡ l._pass;
  each : All (λ p. IsNewPassOf l.self p) l.passes.items;
}
