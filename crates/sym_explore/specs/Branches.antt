-- What a condition makes of a path that goes on: branches, each a path with the truth that the
-- condition has on it. Their states are those of the path, and no state is in two of them.
use Rattle.std.specs.Prelude.{◌≡◌, ◌≤◌, ◌+◌, ℕ, Bool, List, [], ◌∷◌, ◌++◌, map, Option, Some, None, Result, Ok, Err, if◌then◌else◌}
use Rattle.std.specs.List.{All}
use Rattle.sym_base.specs.declared.values.state.FaultKind.TheVariants as fault
use Rattle.sym_base.specs.declared.values.state.State.{State}
use Rattle.sym_base.specs.declared.values.state.Outcome.{Outcome}
use Rattle.sym_base.specs.declared.values.state.Outcome.TheVariants.{Going, Ended}
use Rattle.sym_base.specs.Tests.{Truth}
use Rattle.sym_check.specs.declared.evaluate.arithmetic.Arith.{Arith}
use Rattle.sym_check.specs.Meaning.Conditions.{test_truth, truth}
use Rattle.sym_check.specs.Plan.CondPlans.{CondPlan}
use Rattle.sym_check.specs.Meaning.FixedValues.{Environment}
use Rattle.sym_check.specs.Plan.ScriptPlans.{ScriptPlan}
use Rattle.sym_int.specs.Cuts.{count_truth}
use Rattle.sym_path.specs.declared.path.Path.{Path}
use Rattle.sym_path.specs.Changing.{GoesOn}
use Rattle.sym_path.specs.Fitting.{PathFits}
use Rattle.sym_path.specs.Giving.{given}
use Rattle.sym_explore.specs.declared.branch.Branch.{Branch}

-- Outcomes, each with this truth.
abbrev pub with_truth : Option Bool → List Outcome → List (Outcome × Option Bool)
with_truth truth outcomes = map (λ o. (o, truth)) outcomes

-- What the branches make of a state, each with its truth.
abbrev pub judged : Truth → List Branch → State → List (Outcome × Option Bool)
judged tests [] s = []
judged tests (b ∷ branches) s =
    with_truth (Some b.truth) (given tests b.path s) ++ judged tests branches s

-- A group that goes on with a condition's truth, or ends where its arithmetic fails.
abbrev pub with_answer : ℕ → State → Result Bool Arith → Outcome × Option Bool
with_answer n s (Ok x) = (Going s, Some x)
with_answer n s (Err e) = (Ended (record { kind = fault.Arith; no = n }), None)

-- What a condition makes of an outcome at the record with this number. A group that has ended stays
-- so, and the condition has no truth there.
abbrev pub answered : ℕ → (State → Result Bool Arith) → Outcome → Outcome × Option Bool
answered n meaning (Going s) = with_answer n s (meaning s)
answered n meaning (Ended fault) = (Ended fault, None)

-- What a condition of the script makes of an outcome at the record with this number.
abbrev pub tried : ScriptPlan → Environment → ℕ → CondPlan → Outcome → Outcome × Option Bool
tried p k n c = answered n (truth (test_truth p.tests) k c)

-- The path and the branches that were there before, and those after: at each state the new branches
-- and the path, with its truth, give what the meaning makes of what the path gave. Here the tests
-- answer as those of the script do.
abbrev pub Splits :
    ScriptPlan → (Outcome → Outcome × Option Bool) → Path → List Branch → Path → List Branch →
    Bool → Type 0
Splits p meaning old before path after last = (s : State) →
    judged (test_truth p.tests) after s
    ++ with_truth (Some last) (given (test_truth p.tests) path s)
    ≡ judged (test_truth p.tests) before s ++ map meaning (given (test_truth p.tests) old s)

-- The path fits the script and goes on.
pub record IsGoing (p : ScriptPlan) (path : Path) : Type 0 where
  pub fits : PathFits p path
  pub goes_on : GoesOn path.end

-- Each of the paths fits the script and goes on.
abbrev pub AreGoing : ScriptPlan → List Path → Type 0
AreGoing p paths = All (IsGoing p) paths

-- The path of each branch fits the script and goes on.
abbrev pub BranchesGo : ScriptPlan → List Branch → Type 0
BranchesGo p branches = All (λ (b : Branch). IsGoing p b.path) branches

-- A path can be split: it fits the script and goes on, and so does each branch beside it.
pub record CanSplit (p : ScriptPlan) (path : Path) (branches : List Branch) : Type 0 where
  pub fits : PathFits p path
  pub goes_on : GoesOn path.end
  pub others : BranchesGo p branches

-- How many of the branches have this truth.
abbrev pub branches_with : Bool → List Branch → ℕ
branches_with x [] = 0
branches_with x (b ∷ branches) = count_truth x b.truth + branches_with x branches

-- A path becomes at most so many branches with each truth.
pub record AreFewBranches (most : Bool → ℕ) (before after : List Branch) (last : Bool) :
    Type 0 where
  pub each : (x : Bool) →
      branches_with x after + count_truth x last ≤ branches_with x before + most x

-- The paths of the branches that have this truth, in order.
abbrev pub paths_true : List Branch → List Path
paths_true [] = []
paths_true (b ∷ branches) = if b.truth then b.path ∷ paths_true branches else paths_true branches

-- The paths of the branches on which the condition is false, in order.
abbrev pub paths_false : List Branch → List Path
paths_false [] = []
paths_false (b ∷ branches) = if b.truth then paths_false branches else b.path ∷ paths_false branches
