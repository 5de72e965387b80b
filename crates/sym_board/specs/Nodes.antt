-- The nodes of the tree over n leaves as intervals, from the root down.
use Rattle.std.specs.Prelude.{◌≡◌, ℕ, ◌-◌, ◌<◌, ◌≤◌}
use Rattle.sym_board.specs.Tree.{half, nodes, number, place}
use Rattle.sym_board.specs.declared.limits.TheConstants.{LEAVES_MAX}

pub data IsNode (n : ℕ) : ℕ → ℕ → Type 0 where
  whole : IsNode n 0 n
  left : {lo hi : ℕ} → IsNode n lo hi → 1 < hi - lo → IsNode n lo (half lo hi)
  right : {lo hi : ℕ} → IsNode n lo hi → 1 < hi - lo → IsNode n (half lo hi) hi

-- each number below 2n - 1 is that of one node, and each node has such a number
abbrev pub NodesAreNumbered : Type 0
NodesAreNumbered = (n : ℕ) → 0 < n → n ≤ LEAVES_MAX
    → ((k : ℕ) → k < nodes n
    → IsNode n (place n k).lo (place n k).hi × (number (place n k).lo (place n k).hi ≡ k))
    × ((lo hi : ℕ) → IsNode n lo hi
    → (number lo hi < nodes n)
    × ((place n (number lo hi)).lo ≡ lo)
    × ((place n (number lo hi)).hi ≡ hi))
