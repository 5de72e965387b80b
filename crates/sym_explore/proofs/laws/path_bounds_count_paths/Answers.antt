use Rattle.sym_explore.proofs.CountedPaths.{bound_counts, bound_is_count}
use Rattle.sym_explore.proofs.laws.path_bounds_count_paths.Goals as goal

pub returns : goal.returns
returns c = record { bound = bound_counts; equal = bound_is_count }
