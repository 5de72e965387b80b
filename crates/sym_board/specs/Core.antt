-- The invariant by which the code is proved: each node is in one of four phases, and the words, the
-- slots and the views follow from the phases. It implies that the state is lawful.
use Rattle.std.specs.Prelude.{◌≡◌, ◌≢◌, ℕ, ◌+◌, ◌*◌, ◌<◌, ◌≤◌, ◌⊎◌, true, false, length, slice_index, List, Option, Some, None, sum_by}
use mathlib.Core.Option.{Option as Maybe, some, none}
use lib.ListN.{get_elem?}
use Rattle.atomic_table.specs.Table.{State}
use Rattle.sym_board.specs.Tree.{leaf, inner, nodes, root, place, side}
use Rattle.sym_board.specs.Lawful.{IsActive, IsEmpty}
use Rattle.sym_board.specs.declared.view.View.{View}
use Rattle.sym_board.specs.declared.limits.TheConstants.{LEAVES_MAX, SEATS_MAX}

-- not begun; in the hand of the seat of that number; its piece rests at home; its piece was taken
-- by the node above
pub data Phase : Type 0 where
  fresh : Phase
  held : ℕ → Phase
  home : Phase
  used : Phase

abbrev pub rank : Phase → ℕ
rank fresh = 0
rank (held j) = 0
rank home = 1
rank used = 2

abbrev pub mark : Phase → ℕ
mark fresh = 0
mark (held j) = 0
mark home = 1
mark used = 1

abbrev pub begins : Phase → ℕ
begins fresh = 0
begins (held j) = 1
begins home = 1
begins used = 1

-- both children used and the node above them begun, or at most one at home and the node above not
-- begun
abbrev pub Family : Phase → Phase → Phase → Type 0
Family l r p = ((rank l + rank r ≡ 4) × (begins p ≡ 1)) ⊎ ((rank l + rank r ≤ 1) × (begins p ≡ 0))

module _ {P I : Type 0} where
  abbrev pub InPhase : (I → ℕ → ℕ → P → Type 0) →
      I → ℕ → List (Maybe (Option P)) → ℕ → Phase → Type 0
  InPhase stands input n homes k fresh = get_elem? homes k ≡ some (some None)
  InPhase stands input n homes k (held j) = get_elem? homes k ≡ some none
  InPhase stands input n homes k home =
      (x : P) × (get_elem? homes k ≡ some (some (Some x)))
      × stands input (place n k).lo (place n k).hi x
  InPhase stands input n homes k used = (x : P) → get_elem? homes k ≢ some (some (Some x))

  pub record Grown (stands : I → ℕ → ℕ → P → Type 0) (input : I) (n : ℕ) (phase : ℕ → Phase)
      (words : List ℕ) (homes : List (Maybe (Option P))) : Type 0 where
    pub wide : length words ≡ n + 1
    pub long : length homes ≡ nodes n
    pub each_node : (k : ℕ) → k < nodes n → InPhase stands input n homes k (phase k)
    pub leaf_begun : (i : ℕ) → i < n → i < slice_index words 0 → begins (phase (leaf i)) ≡ 1
    pub leaf_fresh : (i : ℕ) → i < n → slice_index words 0 ≤ i → begins (phase (leaf i)) ≡ 0
    pub each_word : (m : ℕ) → 0 < m → m < n →
        slice_index words m ≡ mark (phase (side n m true)) + 2 * mark (phase (side n m false))
    pub each_family : (m : ℕ) → 0 < m → m < n →
        Family (phase (side n m true)) (phase (side n m false)) (phase (inner m))
    pub crown : slice_index words n ≡ mark (phase (root n))
    pub not_joined : rank (phase (root n)) ≤ 1

module _ {I : Type 0} where
  pub record Seated (input : I) (n seats : ℕ) (phase : ℕ → Phase) (next : ℕ)
      (views : List (View I)) : Type 0 where
    pub each_view : (j : ℕ) (v : View I) → get_elem? views j ≡ some v →
        IsActive input n seats v ⊎ IsEmpty v
    pub hand_held : (j : ℕ) (v : View I) (k : ℕ) → get_elem? views j ≡ some v → v.hand ≡ Some k →
        phase k ≡ held j
    pub held_hand : (k j : ℕ) → k < nodes n → phase k ≡ held j →
        (v : View I) × (get_elem? views j ≡ some v) × (v.hand ≡ Some k)
    pub passes_sum : sum_by (λ (v : View I). v.passes) views ≡ seats
    pub claims_sum : sum_by (λ (v : View I). v.claimed) views
        + sum_by (λ (v : View I). v.ended) views ≡ next
    pub leaves_sum : sum_by (λ (v : View I). v.claimed) views ≤ n
    pub ended_late : 0 < sum_by (λ (v : View I). v.ended) views →
        sum_by (λ (v : View I). v.claimed) views ≡ n

pub record Orderly {P I : Type 0} (stands : I → ℕ → ℕ → P → Type 0) (input : I) (n seats : ℕ)
    (s : State (Option P) (View I)) : Type 0 where
  pub some_leaf : 0 < n
  pub few : n ≤ LEAVES_MAX
  pub few_seats : seats ≤ SEATS_MAX
  pub phase : ℕ → Phase
  pub grown : Grown stands input n phase s.words s.homes
  pub seated : Seated input n seats phase (slice_index s.words 0) s.views
