-- The laws of the board, each of which stands on a public function.
use Rattle.std.specs.Prelude.{◌≡◌, ◌≢◌, ℕ, ◌+◌, ◌%◌, ◌^◌, ◌<◌, ◌≤◌, List, [], ◌∷◌, ◌++◌, bit_or, slice_index, slice_set, Option, Some, None}
use mathlib.Core.Option.{some}
use lib.ListN.{get_elem?}
use Rattle.atomic_table.specs.Table.{State, Act, Valid, stepped, Final, Seen}
use Rattle.sym_board.specs.Tree.{root, place}
use Rattle.sym_board.specs.State.{arrivals, sibling}
use Rattle.sym_board.specs.Lawful.{IsLawful, IsCarriedOnce}
use Rattle.sym_board.specs.Steps.{bit, less_one, one_pass, with_counts, spent, Claims, ArrivesFirst, ArrivesSecond, Crowns, Splits, Joins, Closes, Step}
use Rattle.sym_board.specs.Plays.{hand_slots}
use Rattle.sym_board.specs.Rule.{Keeps}
use Rattle.sym_board.specs.declared.view.View.{View}
use Rattle.sym_board.specs.declared.view.About.{About}
use Rattle.sym_board.specs.declared.limits.TheConstants.{LEAVES_MAX, SEATS_MAX}

module _ {P I : Type 0} (stands : I → ℕ → ℕ → P → Type 0) where
  -- the rule of a board's table says that its state is lawful, and no more
  abbrev pub RuleIsLawful : Type 0
  RuleIsLawful = (about : About I) (s : State (Option P) (View I))
      → Keeps stands about s → IsLawful stands about.input.value about.leaves about.seats s

  abbrev pub LawfulIsRule : Type 0
  LawfulIsRule = (about : About I) (s : State (Option P) (View I))
      → 0 < about.leaves → about.leaves ≤ LEAVES_MAX → about.seats ≤ SEATS_MAX
      → IsLawful stands about.input.value about.leaves about.seats s → Keeps stands about s

  -- a lawful state of a board of at most the largest size, in which the seat id has the view v
  pub record IsAt (input : I) (n seats : ℕ) (s : State (Option P) (View I)) (id : ℕ) (v : View I) :
      Type 0 where
    pub some_leaf : 0 < n
    pub few_leaves : n ≤ LEAVES_MAX
    pub few_seats : seats ≤ SEATS_MAX
    pub lawful : IsLawful stands input n seats s
    pub there : get_elem? s.views id ≡ some v
    pub some_pass : 0 < v.passes

  -- each step leads from a lawful state to a lawful state
  abbrev pub StepsKeepLawful : Type 0
  StepsKeepLawful =
      (input : I) (n seats : ℕ) (s t : State (Option P) (View I)) (id : ℕ) (v : View I)
      → IsAt input n seats s id v → Step stands input n s t id v → IsLawful stands input n seats t

module _ {P I : Type 0} where
  -- In one step of the seat id, which holds the slots c, the word i becomes w: with some new view,
  -- and with slots that it takes or gives back, F holds of the state after.
  abbrev pub StepsTo : State (Option P) (View I) → ℕ → ℕ → ℕ → List (ℕ × Option P) →
      (State (Option P) (View I) → Type 0) → Type 0
  StepsTo s i w id c F =
      (u : View I) × (a : Act (Option P)) × Valid s.homes c a × F (stepped s i w id c u a)

  -- the same where the step sets the bit of the node k in its parent's word, with the piece x in
  -- the node's slot
  abbrev pub SetsBit : ℕ → State (Option P) (View I) → ℕ → ℕ → P →
      (State (Option P) (View I) → Type 0) → Type 0
  SetsBit n s id k x F = let m = (place n k).above in
      StepsTo s m (bit_or (slice_index s.words m) (bit (place n k).is_left)) id
      (hand_slots n k (Some x)) F

  -- the state after the seat id was cut in two
  abbrev pub cut_at : State (Option P) (View I) → ℕ → View I → State (Option P) (View I)
  cut_at s id v = record s { views = slice_set s.views id (less_one v) ++ one_pass v ∷ [] }

  -- the state after the seat id took in another one
  abbrev pub merged_at : State (Option P) (View I) → ℕ → View I → ℕ → View I →
      State (Option P) (View I)
  merged_at s id v other w =
      record s { views = slice_set (slice_set s.views id (with_counts v w)) other spent }

module _ {P I : Type 0} (stands : I → ℕ → ℕ → P → Type 0) where
  -- The word operation of `claim` adds 1 to the claim word. Where the hand is empty and the pass
  -- hasn't ended, it is a claim.
  abbrev pub AddingClaims : Type 0
  AddingClaims = (input : I) (n seats : ℕ) (s : State (Option P) (View I)) (id : ℕ) (v : View I)
      → IsAt stands input n seats s id v → v.hand ≡ None → v.ended < v.passes
      → StepsTo s 0 ((slice_index s.words 0 + 1) % 2 ^ 64) id [] (λ t. Claims n s t id v)

  -- The word operation of `deliver` sets the node's bit in its parent's word. It is a first arrival
  -- where the word lacks the sibling's arrival, ..
  abbrev pub SettingArrivesFirst : Type 0
  SettingArrivesFirst =
      (input : I) (n seats : ℕ) (s : State (Option P) (View I)) (id : ℕ) (v : View I)
      (k : ℕ) (x : P)
      → IsAt stands input n seats s id v → v.hand ≡ Some k → k ≢ root n
      → stands input (place n k).lo (place n k).hi x → arrivals n s.words (sibling n k) ≡ 0
      → SetsBit n s id k x (λ t. ArrivesFirst stands input n s t id v)

  -- .. and a second arrival where the word has it.
  abbrev pub SettingArrivesSecond : Type 0
  SettingArrivesSecond =
      (input : I) (n seats : ℕ) (s : State (Option P) (View I)) (id : ℕ) (v : View I)
      (k : ℕ) (x : P)
      → IsAt stands input n seats s id v → v.hand ≡ Some k → k ≢ root n
      → stands input (place n k).lo (place n k).hi x → arrivals n s.words (sibling n k) ≡ 1
      → SetsBit n s id k x (λ t. ArrivesSecond n s t id v)

  -- With the root in the hand the word operation of `deliver` sets the crown word's bit. It is the
  -- crowning.
  abbrev pub SettingCrowns : Type 0
  SettingCrowns =
      (input : I) (n seats : ℕ) (s : State (Option P) (View I)) (id : ℕ) (v : View I) (x : P)
      → IsAt stands input n seats s id v → v.hand ≡ Some (root n) → stands input 0 n x
      → StepsTo s n (bit_or (slice_index s.words n) 1) id (hand_slots n (root n) (Some x))
      (λ t. Crowns stands input n s t id v)

  -- `new` cuts passes from a seat that counts more than one and no ended one. Each cut is a split.
  abbrev pub CuttingSplits : Type 0
  CuttingSplits = (input : I) (n seats : ℕ) (s : State (Option P) (View I)) (id : ℕ) (v : View I)
      → IsAt stands input n seats s id v → 1 < v.passes → v.ended ≡ 0
      → Splits s (cut_at s id v) id v

  -- `close` merges the seats of passes with empty hands. Each merge is a join.
  abbrev pub MergingJoins : Type 0
  MergingJoins =
      (input : I) (n seats : ℕ) (s : State (Option P) (View I)) (id : ℕ) (v : View I)
      (other : ℕ) (w : View I)
      → IsAt stands input n seats s id v → other ≢ id
      → get_elem? s.views other ≡ some w → w.hand ≡ None
      → Joins s (merged_at s id v other w) id v

  -- `close` ends the table with the seat that it merged, however many passes that one counts. The
  -- words and slots that it then has are those of a lawful state, which ends by a close.
  abbrev pub EndingCloses : Type 0
  EndingCloses = (about : About I) (id : ℕ) (v : View I) (words : List ℕ) (slots : List (Option P))
      → Final (Seen (Keeps stands about) id v) words slots
      → Final
      (λ s. IsLawful stands about.input.value about.leaves about.seats s × Closes s s id v)
      words slots

  -- in a lawful state each claimed chunk lies in exactly one hand or one piece at home
  abbrev pub ChunksLieOnce : Type 0
  ChunksLieOnce =
      (input : I) (n seats : ℕ) → 0 < n → n ≤ LEAVES_MAX → (s : State (Option P) (View I))
      → IsLawful stands input n seats s
      → (i : ℕ) → i < n → i < slice_index s.words 0 → IsCarriedOnce n s i
