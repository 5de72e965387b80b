-- What lists of paths become by conditions and statements. Each fact speaks of a state that at most
-- one of the paths admits, so it doesn't depend on the order of the paths.
use Rattle.std.specs.Prelude.{◌≡◌, ◌≤◌, ◌+◌, ◌*◌, ℕ, Bool, true, false, List, [], ◌∷◌, ◌++◌, map, length, Option, Some, None, ◌⊎◌}
use Rattle.std.specs.List.{All}
use Rattle.sym_base.specs.declared.values.state.State.{State}
use Rattle.sym_base.specs.declared.values.state.Outcome.{Outcome}
use Rattle.sym_base.specs.declared.values.state.Outcome.TheVariants.{Going}
use Rattle.sym_base.specs.declared.values.state.Outcome.TheVariants as outcome
use Rattle.sym_check.specs.Meaning.Conditions.{test_truth}
use Rattle.sym_check.specs.Plan.ScriptPlans.{ScriptPlan}
use Rattle.sym_path.specs.declared.path.Path.{Path}
use Rattle.sym_path.specs.Changing.{GoesOn}
use Rattle.sym_path.specs.Giving.{outcomes}

-- The outcomes that go on, and those that have ended, in order.
abbrev pub those_going : List Outcome → List Outcome
those_going [] = []
those_going (Going s ∷ os) = Going s ∷ those_going os
those_going (outcome.Ended fault ∷ os) = those_going os

-- The outcomes that have ended, in order.
abbrev pub those_ended : List Outcome → List Outcome
those_ended [] = []
those_ended (Going s ∷ os) = those_ended os
those_ended (outcome.Ended fault ∷ os) = outcome.Ended fault ∷ those_ended os

-- The outcomes on which a condition is true, false, or has no truth, in order.
abbrev pub those_true : List (Outcome × Option Bool) → List Outcome
those_true [] = []
those_true ((o, Some true) ∷ os) = o ∷ those_true os
those_true ((o, Some false) ∷ os) = those_true os
those_true ((o, None) ∷ os) = those_true os

-- The outcomes on which a condition is false, in order.
abbrev pub those_false : List (Outcome × Option Bool) → List Outcome
those_false [] = []
those_false ((o, Some true) ∷ os) = those_false os
those_false ((o, Some false) ∷ os) = o ∷ those_false os
those_false ((o, None) ∷ os) = those_false os

-- The outcomes on which a condition has no truth, in order.
abbrev pub those_failed : List (Outcome × Option Bool) → List Outcome
those_failed [] = []
those_failed ((o, Some true) ∷ os) = those_failed os
those_failed ((o, Some false) ∷ os) = those_failed os
those_failed ((o, None) ∷ os) = o ∷ those_failed os

-- What the paths give at a state, with the tests of the script.
abbrev pub at_state : ScriptPlan → List Path → State → List Outcome
at_state p paths s = outcomes (test_truth p.tests) paths s

-- Each of the paths goes on.
abbrev pub AllGoOn : List Path → Type 0
AllGoOn paths = All (λ (path : Path). GoesOn path.end) paths

-- A condition was tried on the old paths: the first list has what they give where it is true, where
-- it is false was added to the second, and where its arithmetic fails to the third.
pub record ArePartsAt (p : ScriptPlan) (meaning : Outcome → Outcome × Option Bool) (old new falses_before falses_after ended_before ended_after : List Path) (s : State) : Type 0 where
  pub trues : at_state p new s ≡ those_true (map meaning (at_state p old s))
  pub falses : at_state p falses_after s ≡ at_state p falses_before s ++ those_false (map meaning (at_state p old s))
  pub ended : at_state p ended_after s ≡ at_state p ended_before s ++ those_failed (map meaning (at_state p old s))

-- A condition was tried on the old paths, at each state that at most one of them admits.
abbrev pub AreParts :
    ScriptPlan → (Outcome → Outcome × Option Bool) → List Path → List Path → List Path → List Path →
    List Path → List Path → Type 0
AreParts p meaning old new falses_before falses_after ended_before ended_after = (s : State) →
    length (at_state p old s) ≤ 1 →
    ArePartsAt p meaning old new falses_before falses_after ended_before ended_after s

-- A step was run on the old paths: the first list has what goes on of what it makes of what they
-- give, and what ends was added to the second.
pub record AreRunAt (p : ScriptPlan) (step : Outcome → Outcome) (old new ended_before ended_after : List Path) (s : State) : Type 0 where
  pub going : at_state p new s ≡ those_going (map step (at_state p old s))
  pub ended : at_state p ended_after s ≡ at_state p ended_before s ++ those_ended (map step (at_state p old s))

-- A step was run on the old paths, at each state that at most one of them admits.
abbrev pub AreRun :
    ScriptPlan → (Outcome → Outcome) → List Path → List Path → List Path → List Path → Type 0
AreRun p step old new ended_before ended_after = (s : State) →
    length (at_state p old s) ≤ 1 → AreRunAt p step old new ended_before ended_after s

-- Each path becomes at most so many on which the condition has a truth, and no more in all.
pub record AreFewParts (most : Bool → ℕ) (old new falses_before falses_after ended_before ended_after : List Path) : Type 0 where
  pub trues : length new ≤ length old * most true
  pub falses : length falses_after ≤ length falses_before + length old * most false
  pub all : length new + length falses_after + length ended_after ≤ length falses_before + length ended_before + length old * (most true + most false)

-- The paths of a condition that names no cell: no path is split, and only one list gets any.
pub record AreOfOneTruth (old new falses_before falses_after ended_before ended_after : List Path) : Type 0 where
  pub one : (falses_after ≡ falses_before) ⊎ (new ≡ [])
  pub going : length new + length falses_after ≤ length falses_before + length old
  pub all : length new + length falses_after + length ended_after ≤ length falses_before + length ended_before + length old

-- Each path becomes at most so many that go on, and at most so many in all.
pub record AreFewRun (most_going most_ended : ℕ) (old new ended_before ended_after : List Path) : Type 0 where
  pub going : length new ≤ length old * most_going
  pub all : length new + length ended_after ≤ length ended_before + length old * (most_going + most_ended)
