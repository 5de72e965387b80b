-- The left paths so far go on, and none of the right ones can come after them.
use Rattle.std.proofs.Common.{◌≡◌, ◌<◌, ℕ, Some}
use Rattle.std.specs.Prelude.{slice_get}
use Rattle.sym_check.specs.Checking.CheckedScripts.{checked_plan}
use Rattle.sym_check.specs.Meaning.Conditions.{test_truth}
use Rattle.sym_path.specs.Changing.{GoesOn}
use Rattle.sym_path.specs.declared.path.Path.{Path}
use Rattle.sym_run.specs.ClosedJoins.{HasNoFollower}
use Rattle.sym_run.proofs.closed_joins.have_pairs.Given as goal

abbrev pub invariant-paths : goal.invariant-paths
invariant-paths l = (d : ℕ) (path : Path) → d < l.path-index → slice_get l.left d ≡ Some path → GoesOn path.end × HasNoFollower (test_truth (checked_plan l.checked).tests) path l.right
