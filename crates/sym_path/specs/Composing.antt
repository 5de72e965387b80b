-- Two segments in one: the paths of the first and then of the second.
use Rattle.std.specs.Prelude.{◌≡◌, ◌≤◌, ◌⊎◌, ◌↔◌, ℕ, List, Some, [], ◌∷◌, ◌++◌, length, slice_get}
use Rattle.std.specs.List.{All, Contains, flat_map}
use Rattle.sym_base.specs.declared.values.record.Record.{Record}
use Rattle.sym_base.specs.declared.values.state.State.{State}
use Rattle.sym_base.specs.declared.values.state.Outcome.{Outcome}
use Rattle.sym_base.specs.declared.values.state.Outcome.TheVariants.{Going}
use Rattle.sym_base.specs.declared.values.state.Outcome.TheVariants as outcome
use Rattle.sym_base.specs.Tests.{Truth}
use Rattle.sym_check.specs.Meaning.Conditions.{test_truth}
use Rattle.sym_check.specs.Plan.ScriptPlans.{ScriptPlan}
use Rattle.sym_path.specs.declared.path.PathEnd.{PathEnd}
use Rattle.sym_path.specs.declared.path.PathEnd.TheVariants.{Next, Ended}
use Rattle.sym_path.specs.declared.path.Path.{Path}
use Rattle.sym_path.specs.Fitting.{SegmentFits}
use Rattle.sym_path.specs.Following.{IsFollowed}
use Rattle.sym_path.specs.Giving.{Gives, outcomes}
use Rattle.sym_path.specs.Joining.{IsSettled}
use Rattle.sym_path.specs.Pairs.{HasAtMostPairs}
use Rattle.sym_path.specs.Possible.{IsPossiblePair}
use Rattle.sym_path.specs.Standing.{EndsAmong, StandsFor}

-- What paths give of an outcome: of a state what they give there, and a fault stays.
abbrev pub given_after : Truth → List Path → Outcome → List Outcome
given_after truth paths (Going s) = outcomes truth paths s
given_after truth paths (outcome.Ended fault) = outcome.Ended fault ∷ []

-- What the paths of one segment give at a state, and then those of another give of each outcome.
abbrev pub given_by_both : Truth → List Path → List Path → State → List Outcome
given_by_both truth left right s = flat_map (given_after truth right) (outcomes truth left s)

-- The same of three segments.
abbrev pub given_by_three : Truth → List Path → List Path → List Path → State → List Outcome
given_by_three truth first second third s =
    flat_map (given_after truth third) (given_by_both truth first second s)

-- The faults of the paths came at some of the records.
abbrev pub HaveFaultsAmong : List Record → List Path → Type 0
HaveFaultsAmong records paths = All (λ (path : Path). EndsAmong records path.end) paths

-- The segment is the composition of two: it is settled, fits the script, has at most as many paths
-- as the two have pairs, and stands for the records of the first one and then those of the second,
-- whatever these are. At each state it gives the outcomes that the two in turn give, and where they
-- give at most one, one path at most gives it. Its faults came at records at which those of the two
-- came.
pub record IsComposition (p : ScriptPlan) (left right segment : List Path) : Type 0 where
  pub settled : IsSettled segment
  pub fits : SegmentFits p segment
  pub few : HasAtMostPairs (test_truth p.tests) left right segment
  pub stands : (first rest : List Record) → StandsFor p first left → StandsFor p rest right →
      StandsFor p (first ++ rest) segment
  pub agrees : (s : State) (o : Outcome) → Gives (test_truth p.tests) segment s o ↔
      Contains (given_by_both (test_truth p.tests) left right s) o
  pub gives : (s : State) → length (given_by_both (test_truth p.tests) left right s) ≤ 1 →
      outcomes (test_truth p.tests) segment s ≡ given_by_both (test_truth p.tests) left right s
  pub faults : (records : List Record) → HaveFaultsAmong records left →
      HaveFaultsAmong records right → HaveFaultsAmong records segment

-- Three segments are composed to one from the left, and to another one from the right.
pub record AreComposedBothWays (p : ScriptPlan) (first second third : List Path)
    (from_left from_right : List Path) : Type 0 where
  pub left : List Path
  pub right : List Path
  pub first_two : IsComposition p first second left
  pub then_third : IsComposition p left third from_left
  pub last_two : IsComposition p second third right
  pub after_first : IsComposition p first right from_right

-- The paths of one path and then each of others that can come after it, in order.
abbrev pub AreFollowed : ScriptPlan → Path → List Path → List Path → Type 0
AreFollowed p first [] paths = paths ≡ []
AreFollowed p first (next ∷ others) paths =
    ((both : Path) × (rest : List Path) × (paths ≡ both ∷ rest)
    × IsPossiblePair (test_truth p.tests) first next × IsFollowed p first next both
    × AreFollowed p first others rest)
    ⊎ ((IsPossiblePair (test_truth p.tests) first next → ⊥) × AreFollowed p first others paths)

-- The paths that a path with this end and then others come to: one that has ended stays as it is.
abbrev pub GoesOnTo : ScriptPlan → PathEnd → Path → List Path → List Path → Type 0
GoesOnTo p (Next forms) first others paths = AreFollowed p first others paths
GoesOnTo p (Ended fault) first others paths = paths ≡ first ∷ []

-- The paths that each path of a list and then others come to, in order.
abbrev pub AreComposed : ScriptPlan → List Path → List Path → List Path → Type 0
AreComposed p [] right paths = paths ≡ []
AreComposed p (path ∷ left) right paths =
    (first : List Path) × (rest : List Path) × (paths ≡ first ++ rest)
    × GoesOnTo p path.end path right first × AreComposed p left right rest

-- A list of paths grows by the path of one and then another, where that can come after it.
abbrev pub GrowsBy : ScriptPlan → Path → Path → List Path → List Path → Type 0
GrowsBy p first next old new =
    ((both : Path) × (new ≡ old ++ both ∷ [])
    × IsPossiblePair (test_truth p.tests) first next × IsFollowed p first next both)
    ⊎ ((IsPossiblePair (test_truth p.tests) first next → ⊥) × (new ≡ old))

-- A list of paths grows by the paths of one and then each of others that can come after it.
pub record GrowsByAll (p : ScriptPlan) (first : Path) (others old new : List Path) : Type 0 where
  pub paths : List Path
  pub is : new ≡ old ++ paths
  pub are : AreFollowed p first others paths

-- A list of paths grows by the paths that one, which may have ended, and then others come to.
pub record GrowsByPath (p : ScriptPlan) (path : Path) (others old new : List Path) : Type 0 where
  pub paths : List Path
  pub is : new ≡ old ++ paths
  pub are : GoesOnTo p path.end path others paths

-- The one at this index of the others can come after the path.
pub record CanComeAt (truth : Truth) (first : Path) (others : List Path) (at : ℕ) : Type 0 where
  pub next : Path
  pub is : slice_get others at ≡ Some next
  pub possible : IsPossiblePair truth first next
