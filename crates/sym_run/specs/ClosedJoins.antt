-- Runs that keep no records, joined whatever their chains are, and saved runs of consecutive
-- records in one. That neighbours with no pair stay apart is a choice of this project
-- (docs/DECISIONS.md).
use Rattle.std.specs.Prelude.{◌≡◌, ℕ, List, ◌++◌, Option, Some, None, slice_get}
use Rattle.std.specs.Map.{lookup}
use Rattle.sym_base.specs.Tests.{Truth}
use Rattle.sym_base.specs.declared.values.record.Record.{Record}
use Rattle.sym_base.specs.declared.values.value.Key.{Key}
use Rattle.sym_check.specs.Meaning.Conditions.{test_truth}
use Rattle.sym_check.specs.Meaning.Groups.{is_key}
use Rattle.sym_check.specs.Plan.ScriptPlans.{ScriptPlan}
use Rattle.sym_path.specs.Composing.{IsComposition}
use Rattle.sym_path.specs.Changing.{GoesOn}
use Rattle.sym_path.specs.Possible.{IsPossiblePair}
use Rattle.sym_path.specs.Standing.{StandsFor}
use Rattle.sym_path.specs.Within.{HaveFewPairs, HaveMorePairs}
use Rattle.sym_path.specs.declared.path.Path.{Path}
use Rattle.sym_path.specs.declared.within.Composition.{Composition}
use Rattle.sym_path.specs.declared.within.Composition.TheVariants.{One, Apart}
use Rattle.sym_plain.specs.Pairs.{put}
use Rattle.sym_run.specs.Chained.{Chained}
use Rattle.sym_run.specs.Chains.{ChainFits, ChainStandsFor, IsClosed, IsTight}
use Rattle.sym_run.specs.Growing.{AreBoth, FoundStandsFor}
use Rattle.sym_run.specs.Runs.{AreClosed, AreTight, GroupsFit, GroupsStandFor}
use Rattle.sym_run.specs.SavedRuns.{SavedStandsFor}
use Rattle.sym_run.specs.declared.saved.Saved.{Saved}

-- None of the others can come after a path.
abbrev pub HasNoFollower : Truth → Path → List Path → Type 0
HasNoFollower truth path others =
    (at : ℕ) (next : Path) → slice_get others at ≡ Some next → IsPossiblePair truth path next → ⊥

-- Two segments have no pair: no path of the left one has ended, and none of the right one can come
-- after it.
abbrev pub HaveNoPairs : Truth → List Path → List Path → Type 0
HaveNoPairs truth left right =
    (at : ℕ) (path : Path) → slice_get left at ≡ Some path →
    GoesOn path.end × HasNoFollower truth path right

-- One segment is the composition of two with few pairs, and two are those that were given. These have
-- more pairs where they stand for records.
abbrev pub IsComposedUnlessApart : ScriptPlan → List Path → List Path → ℕ → Composition → Type 0
IsComposedUnlessApart p left right limit (One segment) =
    IsComposition p left right segment × HaveFewPairs (test_truth p.tests) left right limit
IsComposedUnlessApart p left right limit (Apart first second) =
    (first ≡ left) × (second ≡ right)
    × ((before rest : List Record) → StandsFor p before left → StandsFor p rest right →
    HaveMorePairs (test_truth p.tests) left right limit)

-- A chain and then the right one, in one: it fits, keeps no records, and stands for the records of
-- the two, in order, whatever these are. Where they stand for records, it is tight if the two are.
pub record IsChainJoin (p : ScriptPlan) (limit : ℕ) (left right chain : Chained) : Type 0 where
  pub fits : ChainFits p chain
  pub closed : IsClosed chain
  pub stands : (first rest : List Record) → ChainStandsFor p first left →
      ChainStandsFor p rest right → ChainStandsFor p (first ++ rest) chain
  pub tight : (first rest : List Record) → ChainStandsFor p first left →
      ChainStandsFor p rest right → IsTight p limit left → IsTight p limit right →
      IsTight p limit chain

-- What was found for a key is tight.
abbrev pub FoundIsTight : ScriptPlan → ℕ → Option Chained → Type 0
FoundIsTight p limit None = Unit {0}
FoundIsTight p limit (Some chain) = IsTight p limit chain

-- The chain of a key takes on the records of the right chain. A new key goes last, and all others
-- stay.
pub record GrowsByClosed (p : ScriptPlan) (limit : ℕ) (key : Key) (right : Chained)
    (old new : List (Key × Chained)) : Type 0 where
  pub chain : Chained
  pub is : new ≡ put old key chain
  pub fits : ChainFits p chain
  pub closed : IsClosed chain
  pub stands : (first rest : List Record) → FoundStandsFor p first (lookup (is_key key) old) →
      ChainStandsFor p rest right → ChainStandsFor p (first ++ rest) chain
  pub tight : (first rest : List Record) → FoundStandsFor p first (lookup (is_key key) old) →
      ChainStandsFor p rest right → FoundIsTight p limit (lookup (is_key key) old) →
      IsTight p limit right → IsTight p limit chain

-- Groups that keep no records, and others, in one: the left ones' keys and then the right ones' new
-- ones. They fit and keep no records. Where each stand for records, whatever these are, they stand
-- for the records of the two, in order, and then they are tight for a limit if the two are.
pub record AreClosedJoin (p : ScriptPlan) (limit : ℕ)
    (left right groups : List (Key × Chained)) : Type 0 where
  pub fits : GroupsFit p groups
  pub closed : AreClosed groups
  pub both : AreBoth p left right groups
  pub stands : (first rest : List Record) → GroupsStandFor p first left →
      GroupsStandFor p rest right → GroupsStandFor p (first ++ rest) groups
  pub tight : (first rest : List Record) → GroupsStandFor p first left →
      GroupsStandFor p rest right → AreTight p limit left → AreTight p limit right →
      AreTight p limit groups

-- The chains of a saved run fit the script and keep no records, so that it can be joined.
pub record IsJoinable (p : ScriptPlan) (saved : Saved) : Type 0 where
  pub fits : GroupsFit p saved.groups
  pub closed : AreClosed saved.groups

-- A saved run and the one whose records follow, in one: the left one's keys and then the right one's
-- new ones. Where each stands for its records, whatever these are, both stand for the records of the
-- two, in order, and then it is tight for a limit if the two are.
pub record IsSavedJoin (p : ScriptPlan) (limit : ℕ) (left right joined : Saved) : Type 0 where
  pub first_is : joined.first ≡ left.first
  pub next_is : joined.next ≡ right.next
  pub both : AreBoth p left.groups right.groups joined.groups
  pub stands : (first rest : List Record) → SavedStandsFor p first left →
      SavedStandsFor p rest right → SavedStandsFor p (first ++ rest) joined
  pub tight : (first rest : List Record) → SavedStandsFor p first left →
      SavedStandsFor p rest right → AreTight p limit left.groups → AreTight p limit right.groups →
      AreTight p limit joined.groups
