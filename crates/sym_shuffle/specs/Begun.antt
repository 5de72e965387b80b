-- Groups that begin before their first records make their steps.
use Rattle.std.specs.Prelude.{◌∷◌, ◌++◌, [], List, Result, Ok, Err, if◌then◌else◌}
use Rattle.std.specs.List.{All}
use Rattle.sym_base.specs.declared.values.value.Key.{Key}
use Rattle.sym_base.specs.declared.values.record.Record.{Record}
use Rattle.sym_base.specs.declared.values.state.Outcome.{Outcome}
use Rattle.sym_base.specs.declared.values.state.Outcome.TheVariants.{Going}
use Rattle.sym_check.specs.Meaning.Updates.{initial}
use Rattle.sym_check.specs.Meaning.Validity.{IsValidOutcome}
use Rattle.sym_check.specs.Plan.ScriptPlans.{ScriptPlan}
use Rattle.sym_plain.specs.Pairs.{after_records, has_key}
use Rattle.sym_table.specs.declared.bad.Bad.{Bad}

-- The groups that go on do so with valid states.
abbrev pub AreValid : ScriptPlan → List (Key × Outcome) → Type 0
AreValid p groups = All (λ group. IsValidOutcome p group.1) groups

-- What groups come to where rows follow: the groups after their records, or the first row that is
-- no record.
abbrev pub groups_after : ScriptPlan → Result (List Record) Bad → List (Key × Outcome)
    → Result (List (Key × Outcome)) Bad
groups_after p (Ok records) groups = Ok (after_records p records groups)
groups_after p (Err bad) groups = Err bad

-- The groups with one of this key, which begins at the initial state where it isn't there.
abbrev pub begun_one : ScriptPlan → Key → List (Key × Outcome) → List (Key × Outcome)
begun_one p key groups =
    if has_key groups key then groups else groups ++ (key, Going (initial p)) ∷ []

-- The groups with one of each of these keys; new ones go last, in order.
abbrev pub begun : ScriptPlan → List Key → List (Key × Outcome) → List (Key × Outcome)
begun p [] groups = groups
begun p (key ∷ rest) groups = begun p rest (begun_one p key groups)
