-- The slots of an inner node's children are emptied, one after the other.
use Rattle.std.proofs.Common.{◌≡◌, ℕ, ◌<◌, Bool, List, [], ◌∷◌, ◌++◌, true, false, sym, ap, ◌∙◌, Option, Some, None}
use Rattle.atomic_table.specs.Table.{Me, rest}
use Rattle.sym_board.specs.Tree.{inner, side}
use Rattle.sym_board.specs.Steps.{with_hand}
use Rattle.sym_board.specs.Plays.{hand_slots, Paired}
use Rattle.sym_board.specs.declared.view.View.{View}
use Rattle.sym_board.proofs.Nodes.Spans.{inner_slots}

abbrev first_value : {P : Type 0} → List (ℕ × Option P) → Option P
first_value [] = None
first_value (x ∷ xs) = x.1

module _ {P I : Type 0} (stands : I → ℕ → ℕ → P → Type 0) (n m : ℕ) (which : Bool) (v : View I) (r : ℕ) (before : Me (Option P) (View I)) (t : Paired stands n m which v r before) (a b : ℕ) (is_left : a ≡ side n m true) (is_right : b ≡ side n m false) where
  held : before.1 ≡ (a, Some t.left) ∷ (b, Some t.right) ∷ (inner m, None) ∷ []
  held = ap (λ (w : Me (Option P) (View I)). w.1) t.after ∙ ap (λ k. (k, Some t.left) ∷ (side n m false, Some t.right) ∷ (inner m, None) ∷ []) (sym is_left) ∙ ap (λ k. (a, Some t.left) ∷ (k, Some t.right) ∷ (inner m, None) ∷ []) (sym is_right)

  pub left_slot : before.1 ≡ (a, Some t.left) ∷ rest before.1
  left_slot = held ∙ ap (λ l. (a, Some t.left) ∷ rest l) (sym held)

  pub left_is : (r : Option P) → before.1 ≡ (a, r) ∷ rest before.1 → r ≡ Some t.left
  left_is r e = ap first_value (sym e ∙ left_slot)

  module _ (middle : Me (Option P) (View I)) (one : middle ≡ (before.0, rest before.1 ++ (a, None) ∷ [])) where
    held_one : middle.1 ≡ (b, Some t.right) ∷ (inner m, None) ∷ (a, None) ∷ []
    held_one = ap (λ (w : Me (Option P) (View I)). w.1) one ∙ ap (λ l. rest l ++ (a, None) ∷ []) held

    pub right_slot : middle.1 ≡ (b, Some t.right) ∷ rest middle.1
    right_slot = held_one ∙ ap (λ l. (b, Some t.right) ∷ rest l) (sym held_one)

    pub right_is : (r : Option P) → middle.1 ≡ (b, r) ∷ rest middle.1 → r ≡ Some t.right
    right_is r e = ap first_value (sym e ∙ right_slot)

    pub both_empty : (after : Me (Option P) (View I)) → 0 < m → after ≡ (middle.0, rest middle.1 ++ (b, None) ∷ []) → after ≡ (with_hand v (Some (inner m)) r, hand_slots n (inner m) None)
    both_empty after h two = two ∙ ap (λ l. (middle.0, rest l ++ (b, None) ∷ [])) held_one ∙ ap (λ (w : Me (Option P) (View I)). (w.0, (inner m, None) ∷ (a, None) ∷ (b, None) ∷ [])) one ∙ ap (λ (w : Me (Option P) (View I)). (w.0, (inner m, None) ∷ (a, None) ∷ (b, None) ∷ [])) t.after
        ∙ ap (λ k. (with_hand v (Some (inner m)) r, (inner m, None) ∷ (k, None) ∷ (b, None) ∷ [])) is_left ∙ ap (λ k. (with_hand v (Some (inner m)) r, (inner m, None) ∷ (side n m true, None) ∷ (k, None) ∷ [])) is_right
        ∙ ap (λ l. (with_hand v (Some (inner m)) r, l)) (sym (inner_slots n m None h))
