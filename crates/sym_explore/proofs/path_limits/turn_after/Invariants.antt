-- The turn is that of the paths before and those so far.
use Rattle.std.proofs.Common.{◌++◌, List, take}
use Rattle.sym_path.specs.declared.path.Path.{Path}
use Rattle.sym_explore.specs.Limiting.{AreInTurn}
use Rattle.sym_explore.proofs.path_limits.turn_after.Given as goal

abbrev pub invariant-paths : goal.invariant-paths
invariant-paths l = (before : List Path) → AreInTurn l.fn.turn before → AreInTurn l.turn (before ++ take l.path-index l.paths)
