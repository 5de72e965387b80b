-- Lists of paths that are settled.
use Rattle.std.specs.Prelude.{◌≡◌, ◌≤◌, ◌<◌, ℕ, List, Some, length, slice_get, ◌-◌}
use Rattle.std.specs.List.{All, Any, insert, remove}
use Rattle.sym_base.specs.declared.values.record.Record.{Record}
use Rattle.sym_base.specs.declared.values.state.State.{State}
use Rattle.sym_base.specs.declared.values.state.Outcome.TheVariants.{Going}
use Rattle.sym_base.specs.Tests.{Truth}
use Rattle.sym_check.specs.Meaning.Conditions.{test_truth}
use Rattle.sym_check.specs.Plan.ScriptPlans.{ScriptPlan}
use Rattle.sym_check.specs.Meaning.Updates.{after}
use Rattle.sym_check.specs.Meaning.Validity.{IsValid}
use Rattle.sym_path.specs.declared.path.Path.{Path}
use Rattle.sym_path.specs.declared.path.PathEnd.{PathEnd}
use Rattle.sym_path.specs.declared.path.PathEnd.TheVariants.{Next, Ended}
use Rattle.sym_path.specs.Changing.{GoesOn}
use Rattle.sym_path.specs.Fitting.{SegmentFits}
use Rattle.sym_path.specs.Admitting.{Admits}
use Rattle.sym_path.specs.Giving.{AgreeAt, end_at, outcomes}
use Rattle.sym_path.specs.Joining.{IsSettled, Joinable}
use Rattle.sym_path.specs.Joins.{IsJoin}
use Rattle.sym_path.specs.Standing.{EndsAmong}

-- The paths at two indices can be joined, or can't.
abbrev pub CanJoin : List Path → ℕ → ℕ → Type 0
CanJoin paths i k =
    (p q : Path) → slice_get paths i ≡ Some p → slice_get paths k ≡ Some q → Joinable p q

-- The paths at two indices can't be joined.
abbrev pub CannotJoin : List Path → ℕ → ℕ → Type 0
CannotJoin paths i k =
    (p q : Path) → slice_get paths i ≡ Some p → slice_get paths k ≡ Some q → Joinable p q → ⊥

-- Both paths have ended, and the second one at a later record.
abbrev pub EndsBefore : Path → Path → Type 0
EndsBefore p q = EndBefore p.end q.end
  where
    EndBefore : PathEnd → PathEnd → Type 0
    EndBefore (Next fs) (Next gs) = ⊥
    EndBefore (Next fs) (Ended b) = ⊥
    EndBefore (Ended a) (Next gs) = ⊥
    EndBefore (Ended a) (Ended b) = a.no < b.no

-- This many first paths have ended, each at a later record than those before it.
pub record AreEndedInTurn (paths : List Path) (n : ℕ) : Type 0 where
  pub ended : (i : ℕ) (p : Path) → i < n → slice_get paths i ≡ Some p → GoesOn p.end → ⊥
  pub in_turn : (i k : ℕ) (p q : Path) → i < k → k < n →
      slice_get paths i ≡ Some p → slice_get paths k ≡ Some q → EndsBefore p q

-- Two paths are taken out, and what they become is put in before the place of the second one.
pub record IsPairJoined (old : List Path) (first second : ℕ) (new : List Path) : Type 0 where
  pub p : Path
  pub q : Path
  pub joined : Path
  pub at_first : slice_get old first ≡ Some p
  pub at_second : slice_get old second ≡ Some q
  pub join : IsJoin p q joined
  pub is : new ≡ insert (remove (remove old second) first) (second - 1) joined

-- What the paths give at a state, where at most one of them admits it, is what the others give.
abbrev pub GivesSame : List Path → List Path → Type 0
GivesSame old new = (truth : Truth) (s : State) →
    length (outcomes truth old s) ≤ 1 → outcomes truth new s ≡ outcomes truth old s

-- Each of the paths ends as one of the others does.
abbrev pub EndsAsOne : List Path → List Path → Type 0
EndsAsOne old new = All (λ (path : Path). Any (λ (q : Path). q.end ≡ path.end) old) new

-- The second paths give the same outcomes as the first ones at each state, and the same list of
-- them wherever no two of the first ones admit it. They fit where those do, have no fault that none
-- of those has, and are no more.
pub record IsReduced (old new : List Path) : Type 0 where
  pub agree : (truth : Truth) (s : State) → AgreeAt truth new old s
  pub same : GivesSame old new
  pub fits : (plan : ScriptPlan) → SegmentFits plan old → SegmentFits plan new
  pub ends : EndsAsOne old new
  pub few : length new ≤ length old

-- They are so, and no two of them can be joined.
pub record IsSettling (old new : List Path) : Type 0 where
  pub settled : IsSettled new
  pub reduced : IsReduced old new

-- Exactly one of the paths admits the state.
pub record IsAdmittedOnce (truth : Truth) (paths : List Path) (s : State) : Type 0 where
  pub index : ℕ
  pub path : Path
  pub is : slice_get paths index ≡ Some path
  pub admitted : Admits truth path.when s
  pub no_other : (i : ℕ) (other : Path) →
      slice_get paths i ≡ Some other → Admits truth other.when s → i ≡ index

-- Each of the paths fits the script, has its fault at one of the records, and gives the sequential
-- outcome of the records from each valid state that it admits; exactly one admits each.
pub record AreRight (p : ScriptPlan) (records : List Record) (paths : List Path) : Type 0 where
  pub fits : SegmentFits p paths
  pub faults : All (λ (path : Path). EndsAmong records path.end) paths
  pub right : (i : ℕ) (path : Path) (s : State) → slice_get paths i ≡ Some path →
      IsValid p s → Admits (test_truth p.tests) path.when s →
      end_at path.end s ≡ after p records (Going s)
  pub once : (s : State) → IsValid p s → IsAdmittedOnce (test_truth p.tests) paths s
