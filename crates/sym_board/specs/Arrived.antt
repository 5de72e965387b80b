-- What a delivery answers.
use Rattle.std.specs.Prelude.{◌≡◌, ◌≢◌, ℕ, ◌-◌, ◌<◌, ◌≤◌, ◌⊎◌, true, false, Option, Some, None}
use Rattle.sym_board.specs.Tree.{half}
use Rattle.sym_board.specs.Steps.{bit}
use Rattle.sym_board.specs.Passes.{interval, hand, delivered, arrival_found, whole, board_leaves, board_input}
use Rattle.sym_board.specs.declared.tree.Interval.{Interval}
use Rattle.sym_board.specs.declared.pass.Pass.{Pass}
use Rattle.sym_board.specs.declared.board.Board.{Board}
use Rattle.sym_board.specs.declared.arrive.Arrived.{Arrived}
use Rattle.sym_board.specs.declared.arrive.Arrived.TheVariants.{Left, Pair, Crowned}
use Rattle.sym_board.specs.declared.arrive.Carried.{Carried}
use Rattle.sym_board.specs.declared.arrive.Carried.TheVariants.{Left as LeftAt, Crowned as CrownedAt}

abbrev pub MatchArrived : {P : Type 0} → Arrived P → Type 0 → (P → P → Type 0) → Type 0 → Type 0
MatchArrived Left a f b = a
MatchArrived (Pair x y) a f b = f x y
MatchArrived Crowned a f b = b

abbrev pub MatchCarried : Carried → Type 0 → Type 0 → Type 0
MatchCarried LeftAt a b = a
MatchCarried CrownedAt a b = b

-- The hand was a child of the node from lo to hi and is now that node, in whose word the other
-- child's bit was found. The two pieces stand for its left and its right child.
pub record Meets {P I : Type 0} (stands : I → ℕ → ℕ → P → Type 0) (input : I) (n found : ℕ)
    (before after : Option Interval) (x y : P) : Type 0 where
  pub lo : ℕ
  pub hi : ℕ
  pub two_chunks : 1 < hi - lo
  pub within : hi ≤ n
  pub parent : after ≡ Some (interval lo hi)
  pub child : ((before ≡ Some (interval lo (half lo hi))) × (found ≡ bit false))
      ⊎ ((before ≡ Some (interval (half lo hi) hi)) × (found ≡ bit true))
  pub left : stands input lo (half lo hi) x
  pub right : stands input (half lo hi) hi y

-- the first interval lies within the second, which is longer
pub record IsAbove (before after : Option Interval) : Type 0 where
  pub inner_is : Interval
  pub outer_is : Interval
  pub was : before ≡ Some inner_is
  pub is : after ≡ Some outer_is
  pub lo : outer_is.lo ≤ inner_is.lo
  pub hi : inner_is.hi ≤ outer_is.hi
  pub longer : inner_is.hi - inner_is.lo < outer_is.hi - outer_is.lo

module _ {P I : Type 0} {g : _} where
  -- The hand wasn't the root, its parent's word lacked the sibling's arrival at this step, and the
  -- hand is empty.
  pub record LeavesAlone (b : Board P I) (old new : Pass P I g) : Type 0 where
    pub not_root : hand old ≢ Some (whole b)
    pub no_sibling : arrival_found new ≡ 0
    pub emptied : hand new ≡ None

  -- The hand wasn't the root, its parent's word had the sibling's arrival at this step, and the
  -- pieces of both children come back.
  pub record FindsSibling (stands : I → ℕ → ℕ → P → Type 0) (b : Board P I) (old new : Pass P I g)
      (x y : P) : Type 0 where
    pub not_root : hand old ≢ Some (whole b)
    pub meets : Meets stands (board_input b) (board_leaves b) (arrival_found new)
        (hand old) (hand new) x y

  -- the hand was the root and is empty
  pub record CrownsRoot (b : Board P I) (old new : Pass P I g) : Type 0 where
    pub root : hand old ≡ Some (whole b)
    pub emptied : hand new ≡ None

  -- The node delivered last wasn't the root, and its parent's word lacked the sibling's arrival at
  -- that step.
  pub record EndsAlone (b : Board P I) (p : Pass P I g) : Type 0 where
    pub not_root : delivered p ≢ Some (whole b)
    pub no_sibling : arrival_found p ≡ 0

  -- the node delivered last was the root
  abbrev pub EndsAtRoot : Board P I → Pass P I g → Type 0
  EndsAtRoot b p = delivered p ≡ Some (whole b)
