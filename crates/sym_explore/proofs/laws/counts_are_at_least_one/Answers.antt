use Rattle.sym_explore.proofs.CountedPaths.{conditions_branch, updates_go_on}
use Rattle.sym_explore.proofs.laws.counts_are_at_least_one.Goals as goal

pub returns : goal.returns
returns c = record { branches = conditions_branch; going = updates_go_on }
