-- The items copied so far are the first ones.
use Rattle.std.proofs.Common.{◌≡◌, take}
use Rattle.sym_base.proofs.values.small_list.copies.Given as goal

abbrev pub invariant-items : goal.invariant-items
invariant-items g l = l.copied.items ≡ take l.item-index l.items
