use Rattle.std.proofs.Common.{◌≡◌, ◌<◌, ℕ, Some, slice_get}
use Rattle.sym_check.specs.Checking.CheckedScripts.{checked_plan}
use Rattle.sym_check.specs.Meaning.Conditions.{test_truth}
use Rattle.sym_path.specs.Admitting.{Admits}
use Rattle.sym_path.specs.declared.path.Path.{Path}
use Rattle.sym_bench.proofs.chain.given.Given as goal

-- none of the paths so far admits the state
abbrev pub invariant-paths : goal.invariant-paths
invariant-paths l = (i : ℕ) (other : Path) → i < l.path-index → slice_get l.segment i ≡ Some other → Admits (test_truth (checked_plan l.checked).tests) other.when l.state → ⊥
