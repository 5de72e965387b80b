-- Groups that are led on by the chains of saved runs, which may stand for no records.
use Rattle.std.specs.Prelude.{◌≡◌, ℕ, suc, Bool, true, false, List, [], ◌∷◌, Option, Some, None, option_and_then}
use Rattle.std.specs.Map.{lookup}
use Rattle.sym_base.specs.Tests.{Truth}
use Rattle.sym_base.specs.declared.values.value.Key.{Key}
use Rattle.sym_base.specs.declared.values.state.Outcome.{Outcome}
use Rattle.sym_base.specs.declared.values.state.Outcome.TheVariants.{Going, Ended}
use Rattle.sym_check.specs.Meaning.Conditions.{test_truth}
use Rattle.sym_check.specs.Meaning.Groups.{is_key}
use Rattle.sym_check.specs.Plan.ScriptPlans.{ScriptPlan}
use Rattle.sym_path.specs.Giving.{outcomes}
use Rattle.sym_path.specs.declared.path.Path.{Path}
use Rattle.sym_plain.specs.Pairs.{put, standing}
use Rattle.sym_run.specs.Chained.{Chained}
use Rattle.sym_file.specs.declared.totals.Taken.{Taken}
use Rattle.sym_file.specs.declared.totals.Taken.TheVariants.{Done, Gap}

abbrev pub first_of : {A : Type 0} → List A → Option A
first_of [] = None
first_of (x ∷ xs) = Some x

-- What paths make of an outcome: of a state what the first path makes of it that admits it, or
-- none. A group that has ended stays so.
abbrev pub led_by : Truth → List Path → Outcome → Option Outcome
led_by truth paths (Going s) = first_of (outcomes truth paths s)
led_by truth paths (Ended fault) = Some (Ended fault)

-- The same of segments in turn, and of those of a chain.
abbrev pub led_in_turn : Truth → List (List Path) → Outcome → Option Outcome
led_in_turn truth [] outcome = Some outcome
led_in_turn truth (segment ∷ segments) outcome =
    option_and_then (led_in_turn truth segments) (led_by truth segment outcome)

abbrev pub led_through : Truth → Chained → Outcome → Option Outcome
led_through truth chain outcome = led_in_turn truth chain.segments outcome

-- What groups come to by the chains of a list of groups, which are counted from `index` on. The
-- first whose chain has no path for how its group stands is a gap.
abbrev pub taken_on : ℕ → (Outcome → Taken) → Option Outcome → Taken
taken_on index more None = Gap index
taken_on index more (Some outcome) = more outcome

abbrev pub taken : ScriptPlan → ℕ → List (Key × Chained) → List (Key × Outcome) → Taken
taken p index [] totals = Done totals
taken p index (group ∷ groups) totals =
    taken_on index (λ outcome. taken p (suc index) groups (put totals group.0 outcome))
    (led_through (test_truth p.tests) group.1 (standing p (lookup (is_key group.0) totals)))

-- Where an outcome was led on, this is what it was led to; else there is a gap.
abbrev pub IsLed : Bool → Outcome → Option Outcome → Type 0
IsLed true now led = led ≡ Some now
IsLed false now led = led ≡ None

-- The groups after a group of a saved run was taken, by what its chain makes of how it stands.
abbrev pub IsTaken : Key → List (Key × Outcome) → Option Outcome → Bool → List (Key × Outcome)
    → Type 0
IsTaken key old led true new =
    (outcome : Outcome) × (led ≡ Some outcome) × (new ≡ put old key outcome)
IsTaken key old led false new = led ≡ None

-- What was answered, by the first gap, or by none and the groups.
abbrev pub taken_to : Option ℕ → List (Key × Outcome) → Taken
taken_to None totals = Done totals
taken_to (Some index) totals = Gap index

abbrev pub IfDone : Taken → (List (Key × Outcome) → Type 0) → Type 0
IfDone (Done totals) P = P totals
IfDone (Gap group) P = Unit {0}
