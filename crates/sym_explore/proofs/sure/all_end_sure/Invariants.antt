-- The paths so far have ended, or their cells are known.
use Rattle.std.proofs.Common.{All, take}
use Rattle.sym_path.specs.declared.path.Path.{Path}
use Rattle.sym_explore.specs.Sure.{IsSureEnd}
use Rattle.sym_explore.proofs.sure.all_end_sure.Given as goal

abbrev pub invariant-paths : goal.invariant-paths
invariant-paths l = All (λ (path : Path). IsSureEnd path.end) (take l.path-index l.paths)
