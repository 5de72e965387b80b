use Rattle.std.proofs.Common.{◌≡◌, ℕ, ◌-◌, ◌<◌, false, get_or}
use mathlib.Core.Option.{some}
use lib.ListN.{get_elem?}
use Rattle.std.specs.Slots.{slots_filled, slots_len, slots_items}
use Rattle.std.specs.Slots.Ownership.{Filled}
use Rattle.sym_board.proofs.close.collect.Given as goal

abbrev pub invariant-slots : goal.invariant-slots
invariant-slots g l = record {
  items : slots_items l.closed.slots ≡ slots_items l.fn.closed.slots;
  same_len : slots_len l.closed.slots ≡ slots_len l.fn.closed.slots;
  filled : Filled (slots_filled l.closed.slots) l.slot (slots_len l.closed.slots);
  empty : (k : ℕ) → k < l.slot → get_or (slots_filled l.closed.slots) k false ≡ false;
  found : l.kept < l.slot → get_elem? (slots_items l.fn.closed.slots) l.kept ≡ some l.found;
}

abbrev pub decreases-slots : goal.decreases-slots
decreases-slots g l = slots_len l.closed.slots - l.slot
