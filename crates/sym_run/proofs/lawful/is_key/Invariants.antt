-- The values so far are of their fields' kinds.
use Rattle.std.proofs.Common.{◌≡◌, ◌<◌, ℕ, length, Some}
use Rattle.std.specs.Prelude.{slice_get}
use Rattle.sym_base.specs.declared.values.value.Value.{Value}
use Rattle.sym_check.specs.Meaning.Validity.{IsOfField}
use Rattle.sym_check.specs.Plan.ScriptPlans.{script_plan}
use Rattle.sym_run.proofs.lawful.is_key.Given as goal

abbrev pub invariant-values : goal.invariant-values
invariant-values l =
    (length l.fields ≡ length l.values)
    × ((d : ℕ) (f : ℕ) (v : Value) → d < l.index → slice_get l.fields d ≡ Some f → slice_get l.values d ≡ Some v → IsOfField (script_plan l.plan) f v)
