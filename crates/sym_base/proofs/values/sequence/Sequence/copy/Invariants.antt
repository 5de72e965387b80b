-- The items copied so far are the first ones of the list.
use Rattle.std.proofs.Common.{◌≡◌, take}
use Rattle.sym_base.proofs.values.sequence.Sequence.copy.Given as goal

abbrev pub invariant-items : goal.invariant-items
invariant-items g l = l.items.items ≡ take l.item-index l.item-items
