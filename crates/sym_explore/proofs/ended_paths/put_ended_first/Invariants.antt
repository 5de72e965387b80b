-- Of the paths before the index, those that have ended come first, and then those that go on.
use Rattle.std.proofs.Common.{◌-◌, length}
use Rattle.sym_explore.proofs.EndedFirst.{AreEndedTo}
use Rattle.sym_explore.proofs.ended_paths.put_ended_first.Given as goal

abbrev pub invariant-paths : goal.invariant-paths
invariant-paths l = AreEndedTo l.initial.paths.items l.index l.count l.paths.items

abbrev pub decreases-paths : goal.decreases-paths
decreases-paths l = length l.paths.items - l.index
