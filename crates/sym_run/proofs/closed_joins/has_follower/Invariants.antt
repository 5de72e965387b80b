-- None of the others so far can come after the path.
use Rattle.std.proofs.Common.{◌≡◌, ◌<◌, ℕ, Some}
use Rattle.std.specs.Prelude.{slice_get}
use Rattle.sym_check.specs.Checking.CheckedScripts.{checked_plan}
use Rattle.sym_check.specs.Meaning.Conditions.{test_truth}
use Rattle.sym_path.specs.Possible.{IsPossiblePair}
use Rattle.sym_path.specs.declared.path.Path.{Path}
use Rattle.sym_run.proofs.closed_joins.has_follower.Given as goal

abbrev pub invariant-others : goal.invariant-others
invariant-others l = (d : ℕ) (next : Path) → d < l.next-index → slice_get l.others d ≡ Some next → IsPossiblePair (test_truth (checked_plan l.checked).tests) l.path next → ⊥
