-- The first ones are in order.
use Rattle.std.proofs.Common.{◌≤◌, length, take}
use Rattle.sym_file.specs.Places.{AreInOrder}
use Rattle.sym_file.proofs.scan.are_in_order.Given as goal

abbrev pub invariant-spans : goal.invariant-spans
invariant-spans l = AreInOrder (take l.at l.spans) × (l.at ≤ length l.spans)
