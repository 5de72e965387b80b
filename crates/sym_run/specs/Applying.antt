-- What groups come to where the records of a run follow.
use Rattle.std.specs.Prelude.{◌≡◌, Bool, true, false, List, Option, Some, None, Result, Ok, Err}
use Rattle.std.specs.List.{All}
use Rattle.std.specs.Map.{lookup}
use Rattle.sym_base.specs.declared.values.value.Key.{Key}
use Rattle.sym_base.specs.declared.values.record.Record.{Record}
use Rattle.sym_base.specs.declared.values.state.Outcome.{Outcome}
use Rattle.sym_check.specs.Plan.ScriptPlans.{ScriptPlan}
use Rattle.sym_check.specs.Meaning.Groups.{is_key}
use Rattle.sym_check.specs.Meaning.Updates.{after}
use Rattle.sym_check.specs.Meaning.Validity.{IsValidOutcome}
use Rattle.sym_plain.specs.Pairs.{after_records, put, standing}
use Rattle.sym_table.specs.declared.bad.Bad.{Bad as BadRow}
use Rattle.sym_run.specs.declared.runs.Applied.{Applied}
use Rattle.sym_run.specs.declared.runs.Applied.TheVariants.{Done, Bad}
use Rattle.sym_run.specs.declared.runs.Run.{Run}
use Rattle.sym_run.specs.Runs.{GroupsStandFor}

-- The groups that go on do so with valid states.
abbrev pub AreValid : ScriptPlan → List (Key × Outcome) → Type 0
AreValid p groups = All (λ group. IsValidOutcome p group.1) groups

-- The row that is no record.
abbrev pub bad_of : Applied → Option BadRow
bad_of (Done groups) = None
bad_of (Bad bad) = Some bad

abbrev pub IfDone : Applied → (List (Key × Outcome) → Type 0) → Type 0
IfDone (Done groups) P = P groups
IfDone (Bad bad) P = Unit {0}

-- What a run comes to on groups, as `Run::apply` says: its bad row, or the groups after the records
-- for which its chains stand, whatever these are.
pub record IsApplied (p : ScriptPlan) (run : Run) (groups : List (Key × Outcome))
    (applied : Applied) : Type 0 where
  pub bad : bad_of applied ≡ run.bad
  pub led : (records : List Record) → GroupsStandFor p records run.groups →
      IfDone applied (λ g. g ≡ after_records p records groups)

-- The groups after records, or the row that is none.
abbrev pub applied_to : ScriptPlan → Result (List Record) BadRow → List (Key × Outcome) → Applied
applied_to p (Ok records) groups = Done (after_records p records groups)
applied_to p (Err bad) groups = Bad bad

-- The groups where the one with this key has been led on by records; a new one begins with the
-- initial state.
abbrev pub led_on : ScriptPlan → List Record → Key → List (Key × Outcome) → List (Key × Outcome)
led_on p records key groups =
    put groups key (after p records (standing p (lookup (is_key key) groups)))

-- Where there is a group with the key, it is led on.
abbrev pub LeadsOn : ScriptPlan → List Record → Key
    → List (Key × Outcome) → Bool → List (Key × Outcome) → Type 0
LeadsOn p records key old true new = new ≡ led_on p records key old
LeadsOn p records key old false new = Unit {0}

-- Where there is none, the groups stay.
abbrev pub StaysUnless : Key → List (Key × Outcome) → Bool → List (Key × Outcome) → Type 0
StaysUnless key old true new = Unit {0}
StaysUnless key old false new = (lookup (is_key key) old ≡ None) × (new ≡ old)
