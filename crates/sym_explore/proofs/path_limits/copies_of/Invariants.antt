-- The copies are those of the paths so far.
use Rattle.std.proofs.Common.{◌≡◌, take}
use Rattle.sym_explore.specs.Limiting.{chosen}
use Rattle.sym_explore.proofs.path_limits.copies_of.Given as goal

abbrev pub invariant-paths : goal.invariant-paths
invariant-paths l = l.copies.items ≡ chosen l.ended (take l.path-index l.paths)
