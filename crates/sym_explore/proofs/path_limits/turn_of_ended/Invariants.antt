-- The turn is that of the paths so far that have ended.
use Rattle.std.proofs.Common.{take, true}
use Rattle.sym_explore.specs.Limiting.{AreInTurn, chosen}
use Rattle.sym_explore.proofs.path_limits.turn_of_ended.Given as goal

abbrev pub invariant-paths : goal.invariant-paths
invariant-paths l = AreInTurn l.turn (chosen true (take l.path-index l.paths))
