-- The slots of a hand go home.
use Rattle.std.proofs.Common.{◌≡◌, ◌≢◌, ℕ, ◌%◌, ◌<◌, ◌≤◌, Bool, true, false, List, [], ◌∷◌, length, length-set, set, eqb, eq-eqb, true≢false, refl, sym, ap, ◌∙◌, inl, inr, arith, Option, Some, None}
use mathlib.Core.Option.{Option as Maybe, some}
use mathlib.Core.Logic.{dite}
use native.Mathlib.Decide.{ℕ_discrete}
use lib.ListN.{get_elem?}
use Rattle.atomic_table.specs.Table.{homes_after, carried_after, Valid}
use Rattle.atomic_table.proofs.Lists.{set_here, set_else}
use Rattle.sym_board.specs.Tree.{inner, nodes, side}
use Rattle.sym_board.specs.Steps.{GoesHome}
use Rattle.sym_board.specs.Plays.{cut, is_leaf, children, hand_slots, give_all}
use Rattle.sym_board.proofs.Nodes.Laws.{at_inner}
use Rattle.sym_board.proofs.Steps.Growing.{not_parent}

module _ {P : Type 0} (n : ℕ) (k : ℕ) (o : Option P) where
  given_none : (b : Bool) → carried_after ((k, o) ∷ children n k b) (give_all b) ≡ []
  given_none true = refl
  given_none false = refl

  pub nothing_held : carried_after (hand_slots n k o) (give_all (is_leaf k)) ≡ []
  nothing_held = given_none (is_leaf k)

  given_valid : (b : Bool) (homes : List (Maybe (Option P))) → Valid homes ((k, o) ∷ children n k b) (give_all b)
  given_valid true homes = tt
  given_valid false homes = (tt, (tt, tt))

  pub may_give : (homes : List (Maybe (Option P))) → Valid homes (hand_slots n k o) (give_all (is_leaf k))
  may_give = given_valid (is_leaf k)

module _ {P : Type 0} (n : ℕ) (some_leaf : 0 < n) (few : n ≤ 64) (k : ℕ) (near : k < nodes n) (x : P) (homes : List (Maybe (Option P))) (long : length homes ≡ nodes n) where
  -- the slots of an inner node and its two children, set one after another
  three_set : (m : ℕ) → 0 < m → m < n → k ≡ inner m → GoesHome n k x homes (set (set (set homes k (some (Some x))) (side n m true) (some None)) (side n m false) (some None))
  three_set m pos less e = let l : ℕ = side n m true in let r : ℕ = side n m false in
      let one : List (Maybe (Option P)) = set homes k (some (Some x)) in let two : List (Maybe (Option P)) = set one l (some None) in
      let t = at_inner n some_leaf few m pos less in
      let kl : k ≢ l = λ d. not_parent n some_leaf few m true pos less (sym d ∙ e) in let kr : k ≢ r = λ d. not_parent n some_leaf few m false pos less (sym d ∙ e) in
      let long1 : length one ≡ nodes n = length-set homes k (some (Some x)) ∙ long in let long2 : length two ≡ nodes n = length-set one l (some None) ∙ long1 in
      let nearl = (t.child true).near in let nearr = (t.child false).near in
      record {
        same_length = length-set two r (some None) ∙ length-set one l (some None) ∙ length-set homes k (some (Some x));
        here = set_else two r k (some None) kr ∙ set_else one l k (some None) kl ∙ set_here homes k (some (Some x)) (omega arith);
        others = λ j nk. dite (ℕ_discrete j r)
            (λ d. inr ((m, false, pos, less, e, d), ap (get_elem? (set two r (some None))) d ∙ set_here two r (some None) (omega arith)))
            (λ nr. dite (ℕ_discrete j l)
            (λ d. inr ((m, true, pos, less, e, d), set_else two r j (some None) nr ∙ ap (get_elem? two) d ∙ set_here one l (some None) (omega arith)))
            (λ nl. inl (set_else two r j (some None) nr ∙ set_else one l j (some None) nl ∙ set_else homes k j (some (Some x)) nk)));
      }

  one_set : GoesHome n k x homes (set homes k (some (Some x)))
  one_set = record { same_length = length-set homes k (some (Some x)); here = set_here homes k (some (Some x)) (omega arith); others = λ j ne. inl (set_else homes k j (some (Some x)) ne) }

  given_home : (b : Bool) → eqb (k % 2) 0 ≡ b → GoesHome n k x homes (homes_after homes ((k, Some x) ∷ children n k b) (give_all b))
  given_home true e = one_set
  given_home false e = let odd : k % 2 ≢ 0 = λ z. true≢false (sym (eq-eqb (k % 2) 0 z) ∙ e) in three_set (cut k) (omega arith) (omega arith) (omega arith)

  pub goes_home : GoesHome n k x homes (homes_after homes (hand_slots n k (Some x)) (give_all (is_leaf k)))
  goes_home = given_home (is_leaf k) refl
