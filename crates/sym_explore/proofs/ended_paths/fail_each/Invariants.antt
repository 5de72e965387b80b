-- The first paths have ended, and the others are as they were.
use Rattle.std.proofs.Common.{◌≡◌}
use Rattle.sym_vector.proofs.Changes.{Changed}
use Rattle.sym_path.specs.Changing.{with_fault}
use Rattle.sym_explore.proofs.ended_paths.fail_each.Given as goal

abbrev pub invariant-paths : goal.invariant-paths
invariant-paths l = Changed (λ old new. new ≡ with_fault old l.fault) l.initial.paths l.paths l.path-index
