-- When the state of a board is lawful. It reads the words, the slots at home and the views alone.
use Rattle.std.specs.Prelude.{◌≡◌, ◌≢◌, ℕ, ◌+◌, ◌<◌, ◌≤◌, ◌⊎◌, min, length, slice_index, Option, Some, None, sum_by}
use mathlib.Core.Option.{some, none}
use lib.ListN.{get_elem?}
use Rattle.atomic_table.specs.Table.{State}
use Rattle.sym_board.specs.Tree.{nodes, root, place}
use Rattle.sym_board.specs.State.{arrivals, sibling, HasBegun, IsSpent, IsInHand}
use Rattle.sym_board.specs.declared.view.View.{View}

-- A view of the board over n leaves with so many passes, which counts at least one pass, and no
-- more ended ones than passes. Where it counts an ended one, a claim of it found n or more.
pub record IsActive {I : Type 0} (input : I) (n seats : ℕ) (v : View I) : Type 0 where
  pub input_is : v.input ≡ Some input
  pub leaves_is : v.leaves ≡ n
  pub seats_is : v.seats ≡ seats
  pub some_pass : 0 < v.passes
  pub few_ended : v.ended ≤ v.passes
  pub ended_found : 0 < v.ended → n ≤ v.claim_found
  pub hand_near : (k : ℕ) → v.hand ≡ Some k → k < nodes n

-- a view with nothing left
pub record IsEmpty {I : Type 0} (v : View I) : Type 0 where
  pub spent : IsSpent v
  pub no_hand : v.hand ≡ None
  pub no_claim : v.claimed ≡ 0
  pub no_end : v.ended ≡ 0
  pub no_pass : v.passes ≡ 0

module _ {P I : Type 0} where
  -- a node that hasn't begun: in no hand, not arrived, its slot at home with nothing in it
  pub record IsFresh (n : ℕ) (s : State (Option P) (View I)) (k : ℕ) : Type 0 where
    pub no_hand : (j : ℕ) → ¬ IsInHand s.views j k
    pub not_arrived : arrivals n s.words k ≡ 0
    pub at_home : get_elem? s.homes k ≡ some (some None)

  -- a node in exactly one hand, not arrived, its slot not at home
  pub record IsHeld (n : ℕ) (s : State (Option P) (View I)) (k : ℕ) : Type 0 where
    pub holder : ℕ
    pub held : IsInHand s.views holder k
    pub once : (j : ℕ) → IsInHand s.views j k → j ≡ holder
    pub not_arrived : arrivals n s.words k ≡ 0
    pub out : get_elem? s.homes k ≡ some none

  -- a node that has arrived and is in no hand
  pub record HasArrived (n : ℕ) (s : State (Option P) (View I)) (k : ℕ) : Type 0 where
    pub no_hand : (j : ℕ) → ¬ IsInHand s.views j k
    pub arrived : arrivals n s.words k ≡ 1

  -- a node that has arrived and is the root, or whose sibling hasn't arrived
  pub record IsWaiting (n : ℕ) (s : State (Option P) (View I)) (k : ℕ) : Type 0 where
    pub arrived : arrivals n s.words k ≡ 1
    pub alone : k ≢ root n → arrivals n s.words (sibling n k) ≡ 0

  -- the slot of the node k is at home with a piece that stands for exactly the node's interval
  abbrev pub Rests : (I → ℕ → ℕ → P → Type 0) → I → ℕ → State (Option P) (View I) → ℕ → Type 0
  Rests stands input n s k =
      (x : P) × (get_elem? s.homes k ≡ some (some (Some x)))
      × stands input (place n k).lo (place n k).hi x

  pub record IsLawful (stands : I → ℕ → ℕ → P → Type 0) (input : I) (n seats : ℕ)
      (s : State (Option P) (View I)) : Type 0 where
    -- one word for the claims, one for each inner node with two bits, and one for the crown; one
    -- slot for each node
    pub word_count : length s.words ≡ n + 1
    pub slot_count : length s.homes ≡ nodes n
    pub two_bits : (m : ℕ) → 0 < m → m < n → slice_index s.words m < 4
    pub one_bit : slice_index s.words n < 2
    -- all views that aren't spent are of one board, and a spent one counts nothing and has an empty
    -- hand
    pub each_view : (j : ℕ) (v : View I) → get_elem? s.views j ≡ some v →
        IsActive input n seats v ⊎ IsEmpty v
    pub passes_sum : sum_by (λ (v : View I). v.passes) s.views ≡ seats
    -- the claim number is at most n plus the ended passes, and n or more where some pass has ended
    pub claims_few : slice_index s.words 0 ≤ n + sum_by (λ (v : View I). v.ended) s.views
    pub ended_late : (j : ℕ) (v : View I) → get_elem? s.views j ≡ some v → 0 < v.ended →
        n ≤ slice_index s.words 0
    -- each claim gave a leaf or ended a pass, and as many leaves were given as there are below the
    -- claim number
    pub claims_sum : sum_by (λ (v : View I). v.claimed) s.views
        + sum_by (λ (v : View I). v.ended) s.views ≡ slice_index s.words 0
    pub leaves_sum : sum_by (λ (v : View I). v.claimed) s.views ≡ min n (slice_index s.words 0)
    -- where the nodes and the pieces are
    pub fresh : (k : ℕ) → k < nodes n → ¬ HasBegun n s.words k → IsFresh n s k
    pub begun : (k : ℕ) → k < nodes n → HasBegun n s.words k → IsHeld n s k ⊎ HasArrived n s k
    pub waiting : (k : ℕ) → k < nodes n → IsWaiting n s k → Rests stands input n s k
    pub no_other : (k : ℕ) (x : P) → k < nodes n → get_elem? s.homes k ≡ some (some (Some x)) →
        IsWaiting n s k

module _ {P I : Type 0} where
  -- the node k holds the chunk i, in a hand or as a piece at home
  pub record Carries (n : ℕ) (s : State (Option P) (View I)) (k i : ℕ) : Type 0 where
    pub near : k < nodes n
    pub from : (place n k).lo ≤ i
    pub to : i < (place n k).hi
    pub there : ((j : ℕ) × IsInHand s.views j k)
        ⊎ ((x : P) × (get_elem? s.homes k ≡ some (some (Some x))))

  -- the chunk i lies in exactly one hand or in exactly one piece at home, and not in both
  pub record IsCarriedOnce (n : ℕ) (s : State (Option P) (View I)) (i : ℕ) : Type 0 where
    pub node : ℕ
    pub carries : Carries n s node i
    pub one_node : (k : ℕ) → Carries n s k i → k ≡ node
    pub one_hand : (j l : ℕ) → IsInHand s.views j node → IsInHand s.views l node → j ≡ l
    pub not_both : (j : ℕ) (x : P) → IsInHand s.views j node →
        get_elem? s.homes node ≢ some (some (Some x))
