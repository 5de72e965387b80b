-- The groups so far are lawful.
use Rattle.std.proofs.Common.{◌≡◌, ◌<◌, ℕ, Some}
use Rattle.std.specs.Prelude.{slice_get}
use Rattle.sym_base.specs.declared.values.value.Key.{Key}
use Rattle.sym_check.specs.Checking.CheckedScripts.{checked_plan}
use Rattle.sym_run.specs.Chained.{Chained}
use Rattle.sym_run.specs.SavedRuns.{IsLawfulGroup}
use Rattle.sym_run.proofs.lawful.are_lawful.Given as goal

abbrev pub invariant-groups : goal.invariant-groups
invariant-groups l = (d : ℕ) (group : Key × Chained) → d < l.index → slice_get l.groups d ≡ Some group → IsLawfulGroup (checked_plan l.checked) l.first l.next group
