-- The paths of the branches so far are put into the lists.
use Rattle.std.proofs.Common.{◌≡◌, ◌++◌}
use Rattle.sym_explore.specs.Branches.{paths_false, paths_true}
use Rattle.sym_explore.proofs.branch.put_all.Given as goal

abbrev pub invariant-branches : goal.invariant-branches
invariant-branches l = record {
  trues : l.trues.items ≡ l.initial.trues.items ++ paths_true l.yielded;
  falses : l.falses.items ≡ l.initial.falses.items ++ paths_false l.yielded;
}
