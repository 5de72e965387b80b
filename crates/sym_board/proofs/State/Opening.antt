-- A new board is orderly.
use Rattle.std.proofs.Common.{◌≡◌, ℕ, zero, suc, ◌+◌, ◌<◌, ◌≤◌, List, [], ◌∷◌, length, map, replicate, slice_index, take, refl, sym, ap, ◌∙◌, subst, inl, inr, arith, Option, None}
use Rattle.std.proofs.lemmas.Option.{none-some}
use mathlib.Core.Option.{some, some-injective, some-ne-none}
use lib.ListN.{get_elem?}
use Rattle.atomic_table.specs.Table.{opening}
use Rattle.sym_board.specs.Tree.{nodes}
use Rattle.sym_board.specs.Lawful.{IsActive}
use Rattle.sym_board.specs.Core.{fresh, held, Orderly}
use Rattle.sym_board.specs.declared.view.View.{View}

vacant_at : {P : Type 0} (c k : ℕ) → k < c → get_elem? (map some (replicate {A = Option P} c None)) k ≡ some (some None)
vacant_at zero k h = absurd (omega arith)
vacant_at (suc c) zero h = refl
vacant_at (suc c) (suc k) h = vacant_at c k (omega arith)

vacant_long : (P : Type 0) (c : ℕ) → length (map some (replicate {A = Option P} c None)) ≡ c
vacant_long P zero = refl
vacant_long P (suc c) = ap suc (vacant_long P c)

fresh_held : (j : ℕ) → fresh ≡ held j → ⊥
fresh_held j e = cc

module _ {P I : Type 0} (stands : I → ℕ → ℕ → P → Type 0) (input : I) (n seats : ℕ) (v : View I) (active : IsActive input n seats v) (no_hand : v.hand ≡ None) (no_claim : v.claimed ≡ 0) (no_end : v.ended ≡ 0) (all_passes : v.passes ≡ seats) where
  only : (j : ℕ) (x : View I) → get_elem? (v ∷ []) j ≡ some x → v ≡ x
  only zero x e = some-injective v x e
  only (suc j) x e = absurd (some-ne-none x (sym e))

  pub opened : (words : List ℕ) (count : ℕ) → count ≡ nodes n → 0 < n → n ≤ 64 → seats ≤ 64 → length words ≡ n + 1 → ((i : ℕ) → slice_index words i ≡ 0) → Orderly stands input n seats (opening words (replicate count None) v)
  opened words count sized some_leaf few few_seats wide zeros = record {
    some_leaf = some_leaf;
    few = few;
    few_seats = few_seats;
    phase = λ _. fresh;
    grown = record {
      wide = wide;
      long = vacant_long P count ∙ sized;
      each_node = λ k h. vacant_at count k (omega arith);
      leaf_begun = λ i h lt. let z = zeros 0 in absurd (omega arith);
      leaf_fresh = λ i h le. refl;
      each_word = λ m pos near. zeros m;
      each_family = λ m pos near. inr (omega arith, refl);
      crown = zeros n;
      not_joined = omega arith;
    };
    seated = record {
      each_view = λ j x e. inl (subst (IsActive input n seats) (only j x e) active);
      hand_held = λ j x k e h. absurd (none-some k (sym no_hand ∙ ap (λ (y : View I). y.hand) (only j x e) ∙ h));
      held_hand = λ k j h e. absurd (fresh_held j e);
      passes_sum = omega arith;
      claims_sum = let z = zeros 0 in omega arith;
      leaves_sum = omega arith;
      ended_late = λ pos. absurd (omega arith);
    };
  }

-- the first words of a row of zeros
pub zero_words : (c k i : ℕ) → slice_index (take k (replicate c 0)) i ≡ 0
zero_words c zero i = refl
zero_words zero (suc k) i = refl
zero_words (suc c) (suc k) zero = refl
zero_words (suc c) (suc k) (suc i) = zero_words c k i
