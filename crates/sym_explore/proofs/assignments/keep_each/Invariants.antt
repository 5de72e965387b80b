-- The values are put into the first paths, and the others are as they were.
use Rattle.std.proofs.Common.{◌≡◌}
use Rattle.sym_vector.proofs.Changes.{Changed}
use Rattle.sym_explore.specs.Assigning.{with_parts}
use Rattle.sym_explore.proofs.assignments.keep_each.Given as goal

abbrev pub invariant-paths : goal.invariant-paths
invariant-paths l = Changed (λ old new. new ≡ with_parts old l.cell l.values) l.initial.paths l.paths l.path-index
