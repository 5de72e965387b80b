-- The paths before the index are split.
use Rattle.std.proofs.Common.{◌-◌, length}
use Rattle.sym_check.specs.Plan.ScriptPlans.{script_plan}
use Rattle.sym_explore.specs.Branches.{AreGoing, BranchesGo}
use Rattle.sym_explore.specs.Evaluating.{cell_branches, tried_on_cell}
use Rattle.sym_explore.proofs.PartedInPlace.{AreSplitTo}
use Rattle.sym_explore.proofs.parted_lists.split_each.Given as goal

abbrev pub invariant-paths : goal.invariant-paths
invariant-paths l = record {
  split : AreSplitTo (script_plan l.plan) (tried_on_cell (script_plan l.plan) l.args l.condition) (cell_branches l.condition) l.initial.paths.items l.initial.pieces.items l.index l.count l.paths.items l.pieces.items;
  going : AreGoing (script_plan l.plan) l.paths.items;
  pieces : BranchesGo (script_plan l.plan) l.pieces.items;
}

abbrev pub decreases-paths : goal.decreases-paths
decreases-paths l = length l.paths.items - l.index
