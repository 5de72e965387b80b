-- The count is that of the paths so far.
use Rattle.std.proofs.Common.{◌≡◌, ◌≤◌, length, take, true}
use Rattle.sym_explore.specs.Limiting.{chosen}
use Rattle.sym_explore.proofs.path_limits.count_ended.Given as goal

abbrev pub invariant-paths : goal.invariant-paths
invariant-paths l = record {
  number : l.count ≡ length (chosen true (take l.path-index l.paths));
  few : l.count ≤ l.path-index;
}
