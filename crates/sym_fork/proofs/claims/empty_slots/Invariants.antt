-- As many slots as turns, with nothing in them.
use Rattle.std.proofs.Common.{◌≡◌, None, length}
use Rattle.std.specs.List.{All}
use Rattle.sym_fork.proofs.claims.empty_slots.Given as goal

abbrev pub invariant-slots : goal.invariant-slots
invariant-slots g l = record {
  len : length l.slots.items ≡ l.counter;
  empty : All (λ slot. slot ≡ None) l.slots.items;
}
