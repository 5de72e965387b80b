-- What the words, the slots at home and the views of a board's table show.
-- Word 0 is the claim number. Word m, for m from 1 to n - 1, belongs to the inner node at m: bit 1
-- says that its left child has arrived and bit 2 its right one. Word n is 1 once the root is
-- crowned.
use Rattle.std.specs.Prelude.{◌≡◌, ℕ, ◌/◌, ◌%◌, ◌<◌, ◌⊎◌, true, false, not, ◌==◌, if◌then◌else◌, List, slice_index, Some, None}
use mathlib.Core.Option.{some}
use lib.ListN.{get_elem?}
use Rattle.sym_board.specs.Tree.{leaf, inner, root, place, side}
use Rattle.sym_board.specs.declared.view.View.{View}

-- 1 where the node k has arrived, and else 0
abbrev pub arrivals : ℕ → List ℕ → ℕ → ℕ
arrivals n words k =
    if k == root n then slice_index words n
    else (if (place n k).is_left then slice_index words (place n k).above % 2
    else slice_index words (place n k).above / 2)

abbrev pub sibling : ℕ → ℕ → ℕ
sibling n k = side n (place n k).above (not (place n k).is_left)

-- a leaf has begun where it was claimed, and an inner node where both its children have arrived
abbrev pub HasBegun : ℕ → List ℕ → ℕ → Type 0
HasBegun n words k =
    ((i : ℕ) × (k ≡ leaf i) × (i < slice_index words 0))
    ⊎ ((m : ℕ) × (k ≡ inner m) × (0 < m) × (m < n)
    × (arrivals n words (side n m true) ≡ 1)
    × (arrivals n words (side n m false) ≡ 1))

module _ {I : Type 0} where
  -- a view that another one took in
  abbrev pub IsSpent : View I → Type 0
  IsSpent v = v.input ≡ None

  abbrev pub IsInHand : List (View I) → ℕ → ℕ → Type 0
  IsInHand views j k = (v : View I) × (get_elem? views j ≡ some v) × (v.hand ≡ Some k)
