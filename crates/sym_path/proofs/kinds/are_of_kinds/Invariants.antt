-- The values so far are of their kinds.
use Rattle.std.proofs.Common.{◌≡◌, ◌<◌, ℕ, length, Some}
use Rattle.std.specs.Prelude.{slice_get}
use Rattle.sym_base.specs.declared.values.value.Value.{Value}
use Rattle.sym_check.specs.declared.plan.script.KindPlan.{KindPlan}
use Rattle.sym_check.specs.Meaning.Validity.{IsOfKind}
use Rattle.sym_path.proofs.kinds.are_of_kinds.Given as goal

abbrev pub invariant-values : goal.invariant-values
invariant-values l =
    (length l.kinds ≡ length l.values)
    × ((d : ℕ) (k : KindPlan) (v : Value) → d < l.index → slice_get l.kinds d ≡ Some k → slice_get l.values d ≡ Some v → IsOfKind l.enums k v)
