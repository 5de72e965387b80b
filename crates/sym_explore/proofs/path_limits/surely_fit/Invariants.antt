-- What is left of the limit is that without the paths that those so far become at most.
use Rattle.std.proofs.Common.{◌≡◌, ◌+◌, take}
use Rattle.sym_explore.specs.Counting.{most_grown}
use Rattle.sym_explore.proofs.path_limits.surely_fit.Given as goal

abbrev pub invariant-paths : goal.invariant-paths
invariant-paths l = most_grown l.most (take l.path-index l.paths) + l.left ≡ l.limit
