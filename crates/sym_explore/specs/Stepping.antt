-- What a statement makes of a path: paths whose states are those of the path, with no state in two
-- of them.
use Rattle.std.specs.Prelude.{◌≡◌, ℕ, map, Result}
use Rattle.sym_base.specs.declared.values.record.Record.{Record}
use Rattle.sym_base.specs.declared.values.state.FaultKind.{FaultKind}
use Rattle.sym_base.specs.declared.values.state.State.{State}
use Rattle.sym_base.specs.declared.values.state.Outcome.{Outcome}
use Rattle.sym_base.specs.declared.values.state.Outcome.TheVariants.{Going}
use Rattle.sym_base.specs.declared.values.state.Outcome.TheVariants as outcome
use Rattle.sym_check.specs.Meaning.Conditions.{test_truth}
use Rattle.sym_check.specs.Plan.DoPlans.{DoPlan, DosPlan}
use Rattle.sym_check.specs.Meaning.FixedValues.{Environment}
use Rattle.sym_check.specs.Plan.ScriptPlans.{ScriptPlan}
use Rattle.sym_check.specs.Meaning.Updates.{at_record, do_step, dos_step, step}
use Rattle.sym_path.specs.declared.path.Path.{Path}
use Rattle.sym_path.specs.Giving.{given}

-- What a group comes to by a part of an update at the record with this number; one that has ended
-- stays so.
abbrev pub going_on : ℕ → (State → Result State FaultKind) → Outcome → Outcome
going_on n part (Going s) = at_record n (part s)
going_on n part (outcome.Ended fault) = outcome.Ended fault

-- What an outcome becomes by a statement at the record with this number; one that has ended stays
-- so.
abbrev pub after_do : ScriptPlan → Environment → ℕ → DoPlan → Outcome → Outcome
after_do p k n d = going_on n (do_step p k d)

-- What an outcome becomes by statements, in order, at the record with this number; one that has
-- ended stays so.
abbrev pub after_dos : ScriptPlan → Environment → ℕ → DosPlan → Outcome → Outcome
after_dos p k n ds = going_on n (dos_step p k ds)

-- What an outcome becomes by a record: the step of the script, with its arguments in another order.
abbrev pub step_by : ScriptPlan → Record → Outcome → Outcome
step_by p rec o = step p o rec

-- The second path gives, at each state, what the step makes of what the first one gives. Here the
-- tests answer as those of the script do.
abbrev pub Becomes : ScriptPlan → (Outcome → Outcome) → Path → Path → Type 0
Becomes p f old new = (s : State) →
    given (test_truth p.tests) new s ≡ map f (given (test_truth p.tests) old s)
