-- Two segments in one, where they have at most as many pairs as a limit says.
use Rattle.std.specs.Prelude.{◌≡◌, ℕ, ◌+◌, ◌≤◌, Bool, IsTrue, List}
use Rattle.std.specs.List.{AllZip, count_by}
use Rattle.sym_base.specs.Tests.{Truth}
use Rattle.sym_check.specs.Meaning.Conditions.{test_truth}
use Rattle.sym_check.specs.Plan.ScriptPlans.{ScriptPlan}
use Rattle.sym_path.specs.declared.path.Path.{Path}
use Rattle.sym_path.specs.declared.within.Composition.{Composition}
use Rattle.sym_path.specs.declared.within.Composition.TheVariants.{One, Apart}
use Rattle.sym_path.specs.Composing.{IsComposition}
use Rattle.sym_path.specs.Pairs.{ArePairs, each_with, has_ended}
use Rattle.sym_path.specs.Possible.{IsPossiblePair}

-- There are at least this many pairs: paths of the first list that have ended, and pairs that were
-- found to be possible. Others may be possible too.
pub record HavePairs (truth : Truth) (left right : List Path) (least : ℕ) : Type 0 where
  pub found : List Bool
  pub possible : AllZip
      (λ (pair : Path × Path) (mark : Bool). IsTrue mark → IsPossiblePair truth pair.0 pair.1)
      (each_with left right) found
  pub many : least ≤ count_by has_ended left + count_by (λ (mark : Bool). mark) found

-- At least this many of the others can come after a path.
pub record HasFollowers (truth : Truth) (path : Path) (others : List Path)
    (least : ℕ) : Type 0 where
  pub found : List Bool
  pub possible : AllZip
      (λ (next : Path) (mark : Bool). IsTrue mark → IsPossiblePair truth path next) others found
  pub many : least ≤ count_by (λ (mark : Bool). mark) found

-- There is a number of pairs, and it is within the limit.
pub record HaveFewPairs (truth : Truth) (left right : List Path) (limit : ℕ) : Type 0 where
  pub pairs : ℕ
  pub are : ArePairs truth left right pairs
  pub few : pairs ≤ limit

-- There are more pairs than the limit says.
abbrev pub HaveMorePairs : Truth → List Path → List Path → ℕ → Type 0
HaveMorePairs truth left right limit = HavePairs truth left right (limit + 1)

-- One segment is the composition of two with few pairs, and two segments are those that were given,
-- which have more.
abbrev pub IsComposedWithin : ScriptPlan → List Path → List Path → ℕ → Composition → Type 0
IsComposedWithin p left right limit (One segment) =
    IsComposition p left right segment × HaveFewPairs (test_truth p.tests) left right limit
IsComposedWithin p left right limit (Apart first second) =
    (first ≡ left) × (second ≡ right) × HaveMorePairs (test_truth p.tests) left right limit
