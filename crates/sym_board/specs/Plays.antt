-- What a pass holds with a node in its hand, and what each atomic step tells it.
use Rattle.std.specs.Prelude.{◌≡◌, ◌≢◌, ℕ, ◌+◌, ◌/◌, ◌%◌, ◌<◌, ◌≤◌, Bool, true, false, not, ◌==◌, List, [], ◌∷◌, Option, Some, None}
use Rattle.atomic_table.specs.Table.{Act, gives, chain, Me, Step}
use Rattle.sym_board.specs.Tree.{leaf, inner, place, side}
use Rattle.sym_board.specs.Steps.{bit, with_leaf, with_end, with_hand}
use Rattle.sym_board.specs.declared.view.View.{View}

-- the m of an inner node
abbrev pub cut : ℕ → ℕ
cut k = (k + 1) / 2

abbrev pub is_leaf : ℕ → Bool
is_leaf k = (k % 2) == 0

module _ {P : Type 0} where
  -- the empty slots of the two children of an inner node, and none at a leaf
  abbrev pub children : ℕ → ℕ → Bool → List (ℕ × Option P)
  children n k true = []
  children n k false = (side n (cut k) true, None) ∷ (side n (cut k) false, None) ∷ []

  -- the slots of a pass with the node k in its hand, whose own slot has so much in it
  abbrev pub hand_slots : ℕ → ℕ → Option P → List (ℕ × Option P)
  hand_slots n k o = (k, o) ∷ children n k (is_leaf k)

  abbrev pub slots_of : ℕ → Option ℕ → List (ℕ × Option P)
  slots_of n None = []
  slots_of n (Some k) = hand_slots n k None

  -- all slots of a hand go home
  abbrev pub give_all : Bool → Act (Option P)
  give_all true = gives
  give_all false = chain gives (chain gives gives)

-- what a claim that found the number r says: below n, leaf r and its empty slot, and that this pass
-- had not claimed all leaves; else, the end of the pass
abbrev pub claimed : {P I : Type 0} →
    Step (Option P) → Me (Option P) (View I) → ℕ → Me (Option P) (View I) → Type 0
claimed step m r w =
    (r < m.0.leaves → (w ≡ (with_leaf m.0 r, (leaf r, None) ∷ m.1)) × (m.0.claimed < m.0.leaves))
    × (m.0.leaves ≤ r → w ≡ (with_end m.0 r, m.1))

-- After an arrival of the left or the right child that found r in the word at m, which is the
-- sibling's bit, the inner node at m is in the hand, and the pass holds its slot, empty, and those
-- of its children, each with its piece.
pub record Paired {P I : Type 0} (stands : I → ℕ → ℕ → P → Type 0) (n m : ℕ) (is_left : Bool)
    (v : View I) (r : ℕ) (w : Me (Option P) (View I)) : Type 0 where
  pub sibling : r ≡ bit (not is_left)
  pub left : P
  pub right : P
  pub after : w ≡ (
    with_hand v (Some (inner m)) r,
    (side n m true, Some left) ∷ (side n m false, Some right) ∷ (inner m, None) ∷ [],
  )
  pub left_stands : (i : I) → v.input ≡ Some i → stands i (place n (inner m)).lo m left
  pub right_stands : (i : I) → v.input ≡ Some i → stands i m (place n (inner m)).hi right

-- what an arrival that found r in the parent's word says: with 0 the sibling hadn't arrived and the
-- hand is empty, and else it had
abbrev pub arrived : {P I : Type 0} → (I → ℕ → ℕ → P → Type 0) →
    Step (Option P) → Me (Option P) (View I) → ℕ → Me (Option P) (View I) → Type 0
arrived stands step m r w =
    (r ≡ 0 → w ≡ (with_hand m.0 None r, []))
    × (r ≢ 0 → (k : ℕ) → m.0.hand ≡ Some k
    → Paired stands m.0.leaves (place m.0.leaves k).above (place m.0.leaves k).is_left m.0 r w)

abbrev pub crowned : {P I : Type 0} →
    Step (Option P) → Me (Option P) (View I) → ℕ → Me (Option P) (View I) → Type 0
crowned step m r w = w ≡ (with_hand m.0 None r, [])
