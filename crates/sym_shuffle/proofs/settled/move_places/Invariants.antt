-- The first places have moved, and the others stand as they did.
use Rattle.std.proofs.Common.{◌≡◌, ◌++◌, drop, map, take}
use Rattle.sym_shuffle.specs.Places.{moved_place}
use Rattle.sym_shuffle.proofs.settled.move_places.Given as goal

abbrev pub invariant-places : goal.invariant-places
invariant-places l = l.places ≡ map (moved_place l.count l.moved) (take l.index l.fn.places) ++ drop l.index l.fn.places
