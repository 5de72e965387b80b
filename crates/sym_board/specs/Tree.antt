-- The tree over n leaves. The node from 0 to n is the root. A node of one chunk is a leaf; a longer
-- one has a left child with half its chunks, rounded up, and a right child with the rest.
--
-- Nodes are numbered in order from the left: leaf i is 2i, and the inner node whose children meet
-- at m is 2m - 1. So there are 2n - 1 of them, the inner nodes are one for each m from 1 to n - 1,
-- and the tree is a search tree over the numbers.
use Rattle.std.specs.Prelude.{ℕ, zero, suc, ◌+◌, ◌-◌, ◌*◌, ◌/◌, Bool, true, false, ◌==◌, if◌then◌else◌}
use Rattle.std.proofs.Common.{ltb}

-- where the children of the node from lo to hi meet
abbrev pub half : ℕ → ℕ → ℕ
half lo hi = lo + (hi - lo + 1) / 2

abbrev pub leaf : ℕ → ℕ
leaf i = 2 * i

abbrev pub inner : ℕ → ℕ
inner m = 2 * m - 1

-- how many nodes there are
abbrev pub nodes : ℕ → ℕ
nodes n = 2 * n - 1

abbrev pub number : ℕ → ℕ → ℕ
number lo hi = if hi == (lo + 1) then leaf lo else inner (half lo hi)

abbrev pub root : ℕ → ℕ
root n = number 0 n

-- A node's interval, the m at which its parent's children meet, and whether it is the left one. At
-- the root the last two mean nothing.
pub record Place : Type 0 where
  pub lo : ℕ
  pub hi : ℕ
  pub above : ℕ
  pub is_left : Bool

abbrev pub spot : ℕ → ℕ → ℕ → Bool → Place
spot lo hi above is_left = record { lo = lo; hi = hi; above = above; is_left = is_left }

abbrev pub top : ℕ → Place
top n = record { lo = 0; hi = n; above = 0; is_left = false }

abbrev pub left_of : Place → Place
left_of p = record { lo = p.lo; hi = half p.lo p.hi; above = half p.lo p.hi; is_left = true }

abbrev pub right_of : Place → Place
right_of p = record { lo = half p.lo p.hi; hi = p.hi; above = half p.lo p.hi; is_left = false }

-- the way down from p to the node k, at most so many levels
unfoldable pub seek : ℕ → Place → ℕ → Place
seek zero p k = p
seek (suc f) p k = elim (number p.lo p.hi == k) [
  | true ↦ p
  | false ↦ elim (ltb k (number p.lo p.hi)) [
    | true ↦ seek f (left_of p) k
    | false ↦ seek f (right_of p) k
  ]
]

-- where the node k of the tree over n leaves is, for n up to LEAVES_MAX, with which the tree has
-- seven levels
unfoldable pub place : ℕ → ℕ → Place
unfolding seek
place n k = seek 8 (top n) k

-- the left or the right child of the inner node at m
unfoldable pub side : ℕ → ℕ → Bool → ℕ
side n m true = number (place n (inner m)).lo m
side n m false = number m (place n (inner m)).hi
