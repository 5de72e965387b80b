-- The paths so far are placed.
use Rattle.std.specs.List.{AllZip}
use Rattle.sym_known.specs.Placing.{IsPlaced}
use Rattle.sym_known.proofs.placed.place_all.Given as goal

abbrev pub invariant-paths : goal.invariant-paths
invariant-paths l = AllZip (IsPlaced l.outcomes.items) l.yielded l.placed.items
