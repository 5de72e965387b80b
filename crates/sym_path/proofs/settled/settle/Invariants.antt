-- The first paths have ended in turn, more of the first ones are settled, and all of them are what
-- the ones at the beginning come to.
use Rattle.std.proofs.Common.{◌≤◌, ◌*◌, ◌-◌, length, take}
use Rattle.sym_path.specs.Joining.{IsSettled}
use Rattle.sym_path.specs.Settling.{AreEndedInTurn, IsReduced}
use Rattle.sym_path.proofs.settled.settle.Given as goal

abbrev pub invariant-paths : goal.invariant-paths
invariant-paths l = record {
  within : l.settled ≤ length l.paths.items;
  before : l.ended ≤ l.settled;
  ended : AreEndedInTurn l.paths.items l.ended;
  settled : IsSettled (take l.settled l.paths.items);
  reduced : IsReduced l.initial.paths.items l.paths.items;
}

abbrev pub decreases-paths : goal.decreases-paths
decreases-paths l = 2 * length l.paths.items - l.settled
