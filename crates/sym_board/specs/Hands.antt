-- What a delivery's private calls ask of a pass with a node in its hand, and leave it with.
use Rattle.std.specs.Prelude.{◌≡◌, ◌≢◌, ℕ, ◌<◌, Bool, not, List, Option, Some}
use Rattle.atomic_table.specs.Table.{Me}
use Rattle.sym_board.specs.Tree.{inner, nodes, root, place, spot}
use Rattle.sym_board.specs.Steps.{bit, with_hand}
use Rattle.sym_board.specs.Plays.{hand_slots, slots_of}
use Rattle.sym_board.specs.declared.tree.Spot.{Spot}
use Rattle.sym_board.specs.declared.view.View.{View}

-- the node k of the tree over n leaves isn't the root, and `at` says where it is
pub record IsChildAt (n k : ℕ) (at : Spot) : Type 0 where
  pub near : k < nodes n
  pub not_root : k ≢ root n
  pub found : spot at.lo at.hi at.above at.is_left ≡ place n k

-- a view of a board over n leaves with the node k in its hand
pub record HoldsNode {I : Type 0} (input : I) (n k : ℕ) (v : View I) : Type 0 where
  pub hand_is : v.hand ≡ Some k
  pub some_pass : 0 < v.passes
  pub leaves_is : v.leaves ≡ n
  pub input_is : v.input ≡ Some input

module _ {P I : Type 0} where
  -- The slots are those of a hand with the node k, whose own slot has a piece that stands for the
  -- chunks from lo up to but without hi.
  pub record HoldsPiece (stands : I → ℕ → ℕ → P → Type 0) (input : I) (n k lo hi : ℕ)
      (slots : List (ℕ × Option P)) : Type 0 where
    pub piece : P
    pub slots_are : slots ≡ hand_slots n k (Some piece)
    pub piece_stands : stands input lo hi piece

  -- After an arrival of the left or the right child that found its sibling's bit, the inner node at
  -- m is in the hand, and the two pieces stand for its children.
  pub record TakesBoth (stands : I → ℕ → ℕ → P → Type 0) (input : I) (n m : ℕ) (is_left : Bool)
      (v : View I) (after : Me (Option P) (View I)) (x y : P) : Type 0 where
    pub sibling : after.0.arrival_found ≡ bit (not is_left)
    pub after_is : after ≡
        (with_hand v (Some (inner m)) after.0.arrival_found, slots_of n (Some (inner m)))
    pub left_stands : stands input (place n (inner m)).lo m x
    pub right_stands : stands input m (place n (inner m)).hi y
