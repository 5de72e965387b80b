-- The first of the paths go on, and all of them with those that were moved are the old ones.
use Rattle.std.proofs.Common.{◌≤◌, ◌-◌, length}
use Rattle.std.specs.List.{AllWithin}
use Rattle.sym_path.specs.declared.path.Path.{Path}
use Rattle.sym_path.specs.Changing.{GoesOn}
use Rattle.sym_explore.specs.Ending.{AreMoved}
use Rattle.sym_explore.proofs.ended_paths.move_ended.Given as goal

abbrev pub invariant-paths : goal.invariant-paths
invariant-paths l = record {
  within : l.index ≤ length l.paths.items;
  moved : AreMoved l.initial.paths.items l.paths.items l.initial.ended.items l.ended.items;
  going : AllWithin (λ (path : Path). GoesOn path.end) l.paths.items 0 l.index;
}

abbrev pub decreases-paths : goal.decreases-paths
decreases-paths l = length l.paths.items - l.index
