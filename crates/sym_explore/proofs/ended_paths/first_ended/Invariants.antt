-- The paths so far have ended, and are counted.
use Rattle.std.proofs.Common.{◌≡◌, All, take}
use Rattle.sym_path.specs.Changing.{GoesOn}
use Rattle.sym_path.specs.declared.path.Path.{Path}
use Rattle.sym_explore.proofs.ended_paths.first_ended.Given as goal

abbrev pub invariant-paths : goal.invariant-paths
invariant-paths l = record {
  counted : l.count ≡ l.path-index;
  ended : All (λ (path : Path). ¬ (GoesOn path.end)) (take l.path-index l.paths);
}
