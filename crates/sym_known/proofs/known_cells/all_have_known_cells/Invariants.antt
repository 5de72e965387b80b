-- The paths so far have ended, or their cells are known.
use Rattle.std.proofs.Common.{take}
use Rattle.sym_known.specs.Knowing.{AreKnown}
use Rattle.sym_known.proofs.known_cells.all_have_known_cells.Given as goal

abbrev pub invariant-paths : goal.invariant-paths
invariant-paths l = AreKnown (take l.path-index l.paths)
