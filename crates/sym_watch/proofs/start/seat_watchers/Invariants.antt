use Rattle.std.proofs.Common.{◌≡◌, [], drop, vec_len, All, Some}
use Rattle.left_right.specs.Sides.{view}
use Rattle.sym_watch.specs.Newests.{name_of}
use Rattle.sym_watch.proofs.start.seat_watchers.Given as goal

abbrev pub invariant-watchers : goal.invariant-watchers
invariant-watchers l = record {
  known : view l.board.desk.place ≡ Some (name_of l.seen.book);
  shown : l.board.desk.shown ≡ l.fn.board.desk.shown;
  pending : drop l.board.behind l.board.log.items
      ≡ drop l.fn.board.behind l.fn.board.log.items;
  count : vec_len l.seated ≡ l._watcher;
  each : All (λ w. w ≡ record { of = l.seen.book; seen = []; told = [] }) l.seated.items;
}
