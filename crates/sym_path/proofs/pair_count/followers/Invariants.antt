-- The count is that of the others so far.
use Rattle.std.proofs.Common.{◌≤◌, take}
use Rattle.sym_check.specs.Checking.CheckedScripts.{checked_plan}
use Rattle.sym_check.specs.Meaning.Conditions.{test_truth}
use Rattle.sym_path.specs.Pairs.{AreFollowers}
use Rattle.sym_path.proofs.pair_count.followers.Given as goal

abbrev pub invariant-others : goal.invariant-others
invariant-others l = record {
  number : AreFollowers (test_truth (checked_plan l.checked).tests) l.path (take l.next-index l.others) l.count;
  few : l.count ≤ l.next-index;
}
