-- The count is that of the left paths so far.
use Rattle.std.proofs.Common.{◌≤◌, ◌*◌, ◌^◌, take}
use Rattle.sym_check.specs.Checking.CheckedScripts.{checked_plan}
use Rattle.sym_check.specs.Meaning.Conditions.{test_truth}
use Rattle.sym_path.specs.Pairs.{ArePairs}
use Rattle.sym_path.proofs.pair_count.pairs.Given as goal

abbrev pub invariant-paths : goal.invariant-paths
invariant-paths l = record {
  number : ArePairs (test_truth (checked_plan l.checked).tests) (take l.path-index l.left) l.right l.count;
  few : l.count ≤ l.path-index * 2 ^ 32;
}
