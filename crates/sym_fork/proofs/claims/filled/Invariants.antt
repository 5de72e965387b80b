-- For each slot so far there is what the call gives at its index.
use Rattle.std.proofs.Common.{◌≡◌, ◌<◌, ◌++◌, ℕ, length, slice_index_or}
use Rattle.std.specs.Vec.Iter.{into_iter_items}
use Rattle.sym_fork.specs.Slots.{IsGiven}
use Rattle.sym_fork.proofs.claims.filled.Given as goal

abbrev pub invariant-slots : goal.invariant-slots
invariant-slots g l = record {
  all : l.yielded ++ into_iter_items l.slot-iterator ≡ l.fn.slots.items;
  len : length l.results.items ≡ length l.yielded;
  each : (i : ℕ) (d : _) → i < length l.results.items → IsGiven g.F.Fn l.call i (slice_index_or l.results.items i d);
}
