-- How many pairs two segments have: paths of the first one that have ended, and paths of the second
-- one after paths of the first.
use Rattle.std.specs.Prelude.{◌≡◌, ℕ, ◌+◌, ◌*◌, ◌≤◌, ◌↔◌, Bool, true, false, not, IsTrue, List, map, length}
use Rattle.std.specs.List.{All, AllZip, count_by, flat_map}
use Rattle.sym_base.specs.Tests.{Truth}
use Rattle.sym_path.specs.declared.path.PathEnd.{PathEnd}
use Rattle.sym_path.specs.declared.path.PathEnd.TheVariants.{Next, Ended}
use Rattle.sym_path.specs.declared.path.Path.{Path}
use Rattle.sym_path.specs.Changing.{GoesOn}
use Rattle.sym_path.specs.Possible.{IsPossiblePair}

-- Each path of the one list with each of the other, in order.
abbrev pub each_with : List Path → List Path → List (Path × Path)
each_with left right = flat_map (λ (p : Path). map (λ (q : Path). (p, q)) right) left

-- Whether a path has ended.
abbrev pub is_ended : PathEnd → Bool
is_ended (Next forms) = false
is_ended (Ended fault) = true

-- Whether the path ends in a fault.
abbrev pub has_ended : Path → Bool
has_ended path = is_ended path.end

-- Whether a path goes on.
abbrev pub has_next : Path → Bool
has_next path = not (has_ended path)

-- How many pairs two segments can have at most: the paths of the first list that have ended, and
-- each path of the second one after each path of the first that goes on.
abbrev pub most_pairs : List Path → List Path → ℕ
most_pairs left right = count_by has_ended left + count_by has_next left * length right

-- Each path of the second list can come after each path of the first that goes on.
abbrev pub AreAllPossible : Truth → List Path → List Path → Type 0
AreAllPossible truth left right =
    All (λ (p : Path). GoesOn p.end → All (λ (q : Path). IsPossiblePair truth p q) right) left

-- The answer says whether the second path can come after the first. After a fault no path can.
abbrev pub IsAnswer : Truth → (Path × Path) → Bool → Type 0
IsAnswer truth pair answer = IsTrue answer ↔ IsPossiblePair truth pair.0 pair.1

-- The number of paths of the first list that have ended, and of possible pairs.
pub record ArePairs (truth : Truth) (left right : List Path) (n : ℕ) : Type 0 where
  pub answers : List Bool
  pub decided : AllZip (IsAnswer truth) (each_with left right) answers
  pub sum : n ≡ count_by has_ended left + count_by (λ (answer : Bool). answer) answers

-- The number of the others that can come after a path.
pub record AreFollowers (truth : Truth) (path : Path) (others : List Path) (n : ℕ) : Type 0 where
  pub answers : List Bool
  pub decided : AllZip (λ (next : Path) (answer : Bool). IsAnswer truth (path, next) answer)
      others answers
  pub sum : n ≡ count_by (λ (answer : Bool). answer) answers

-- There is this number of pairs, and there are no more paths.
pub record HasAtMostPairs (truth : Truth) (left right paths : List Path) : Type 0 where
  pub pairs : ℕ
  pub are : ArePairs truth left right pairs
  pub few : length paths ≤ pairs
