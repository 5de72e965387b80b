-- The steps of a board, one kind for each event: a claim, a first and a second arrival at an inner
-- node, the crowning of the root, the splitting and the joining of passes, and the end of the
-- table.
use Rattle.std.specs.Prelude.{◌≡◌, ◌≢◌, ℕ, ◌+◌, ◌-◌, ◌<◌, ◌≤◌, ◌⊎◌, Bool, true, false, not, List, [], ◌∷◌, ◌++◌, length, slice_index, slice_set, max, Option, Some, None}
use mathlib.Core.Option.{Option as Maybe, some, none}
use lib.ListN.{get_elem?}
use Rattle.atomic_table.specs.Table.{State}
use Rattle.sym_board.specs.Tree.{leaf, inner, root, place, side}
use Rattle.sym_board.specs.State.{arrivals}
use Rattle.sym_board.specs.declared.view.View.{View}

-- what the arrival of a left or a right child adds to its parent's word
abbrev pub bit : Bool → ℕ
bit true = 1
bit false = 2

-- j is a child of k
abbrev pub IsBelow : ℕ → ℕ → ℕ → Type 0
IsBelow n j k = (m : ℕ) × (b : Bool) × (0 < m) × (m < n) × (k ≡ inner m) × (j ≡ side n m b)

module _ {I : Type 0} where
  -- after a claim that found i, below n
  abbrev pub with_leaf : View I → ℕ → View I
  with_leaf v i = record v { hand = Some (leaf i); claim_found = i; claimed = v.claimed + 1 }

  -- after a claim that found i, n or more
  abbrev pub with_end : View I → ℕ → View I
  with_end v i = record v { claim_found = i; ended = v.ended + 1 }

  -- after the node in the hand arrived at a word in which this step found w: the hand is then h
  abbrev pub with_hand : View I → Option ℕ → ℕ → View I
  with_hand v h w = record v { hand = h; delivered = v.hand; arrival_found = w }

  -- a view that counts one pass less, and the pass that it gave
  abbrev pub less_one : View I → View I
  less_one v = record v { passes = v.passes - 1 }

  abbrev pub one_pass : View I → View I
  one_pass v = record v {
    hand = None;
    claim_found = 0;
    delivered = None;
    arrival_found = 0;
    claimed = 0;
    ended = 0;
    passes = 1;
  }

  -- A view that took in the counts of another one. Of what their last claims found it keeps the
  -- larger.
  abbrev pub with_counts : View I → View I → View I
  with_counts v w = record v {
    claim_found = max v.claim_found w.claim_found;
    claimed = v.claimed + w.claimed;
    ended = v.ended + w.ended;
    passes = v.passes + w.passes;
  }

  abbrev pub spent : View I
  spent = record {
    input = None;
    leaves = 0;
    seats = 0;
    hand = None;
    claim_found = 0;
    delivered = None;
    arrival_found = 0;
    claimed = 0;
    ended = 0;
    passes = 0;
  }

module _ {P : Type 0} where
  -- The slot of k goes home with the piece x. The empty slots of k's children, which the pass may
  -- still hold, go home with it.
  pub record GoesHome (n k : ℕ) (x : P) (before after : List (Maybe (Option P))) : Type 0 where
    pub same_length : length after ≡ length before
    pub here : get_elem? after k ≡ some (some (Some x))
    pub others : (j : ℕ) → j ≢ k →
        (get_elem? after j ≡ get_elem? before j)
        ⊎ (IsBelow n j k × (get_elem? after j ≡ some (some None)))

  -- The slots of the inner node at m and of its two children are taken. Those of the children of k
  -- go home empty.
  pub record TakesUp (n m k : ℕ) (before after : List (Maybe (Option P))) : Type 0 where
    pub same_length : length after ≡ length before
    pub parent_out : get_elem? after (inner m) ≡ some none
    pub side_out : (b : Bool) → get_elem? after (side n m b) ≡ some none
    pub others : (j : ℕ) → j ≢ inner m → ((b : Bool) → j ≢ side n m b) →
        (get_elem? after j ≡ get_elem? before j)
        ⊎ (IsBelow n j k × (get_elem? after j ≡ some (some None)))

module _ {P I : Type 0} where
  -- below n: the leaf of that number comes into the hand, and its slot is taken
  pub record ClaimsLeaf (n : ℕ) (s t : State (Option P) (View I)) (id : ℕ) (v : View I) :
      Type 0 where
    pub below : slice_index s.words 0 < n
    pub homes_are : t.homes ≡ slice_set s.homes (leaf (slice_index s.words 0)) none
    pub views_are : t.views ≡ slice_set s.views id (with_leaf v (slice_index s.words 0))

  -- else: the pass has ended
  pub record ClaimsNone (n : ℕ) (s t : State (Option P) (View I)) (id : ℕ) (v : View I) :
      Type 0 where
    pub past : n ≤ slice_index s.words 0
    pub homes_are : t.homes ≡ s.homes
    pub views_are : t.views ≡ slice_set s.views id (with_end v (slice_index s.words 0))

  pub record Claims (n : ℕ) (s t : State (Option P) (View I)) (id : ℕ) (v : View I) : Type 0 where
    pub no_hand : v.hand ≡ None
    pub not_ended : v.ended < v.passes
    pub words_are : t.words ≡ slice_set s.words 0 (slice_index s.words 0 + 1)
    pub found : ClaimsLeaf n s t id v ⊎ ClaimsNone n s t id v

  -- a child of the inner node at m arrives, and its sibling hasn't
  pub record ArrivesFirst (stands : I → ℕ → ℕ → P → Type 0) (input : I) (n : ℕ)
      (s t : State (Option P) (View I)) (id : ℕ) (v : View I) : Type 0 where
    pub parent : ℕ
    pub is_left : Bool
    pub piece : P
    pub positive : 0 < parent
    pub near : parent < n
    pub hand_is : v.hand ≡ Some (side n parent is_left)
    pub alone : arrivals n s.words (side n parent (not is_left)) ≡ 0
    pub piece_stands : stands input (place n (side n parent is_left)).lo
        (place n (side n parent is_left)).hi piece
    pub words_are : t.words ≡ slice_set s.words parent (slice_index s.words parent + bit is_left)
    pub homes_are : GoesHome n (side n parent is_left) piece s.homes t.homes
    pub views_are : t.views ≡ slice_set s.views id (with_hand v None (slice_index s.words parent))

  -- a child of the inner node at m arrives, and its sibling has
  pub record ArrivesSecond (n : ℕ) (s t : State (Option P) (View I)) (id : ℕ) (v : View I) :
      Type 0 where
    pub parent : ℕ
    pub is_left : Bool
    pub positive : 0 < parent
    pub near : parent < n
    pub hand_is : v.hand ≡ Some (side n parent is_left)
    pub met : arrivals n s.words (side n parent (not is_left)) ≡ 1
    pub words_are : t.words ≡ slice_set s.words parent (slice_index s.words parent + bit is_left)
    pub homes_are : TakesUp n parent (side n parent is_left) s.homes t.homes
    pub views_are : t.views ≡ slice_set s.views id
        (with_hand v (Some (inner parent)) (slice_index s.words parent))

  -- the root arrives at the crown word
  pub record Crowns (stands : I → ℕ → ℕ → P → Type 0) (input : I) (n : ℕ)
      (s t : State (Option P) (View I)) (id : ℕ) (v : View I) : Type 0 where
    pub piece : P
    pub hand_is : v.hand ≡ Some (root n)
    pub piece_stands : stands input (place n (root n)).lo (place n (root n)).hi piece
    pub words_are : t.words ≡ slice_set s.words n 1
    pub homes_are : GoesHome n (root n) piece s.homes t.homes
    pub views_are : t.views ≡ slice_set s.views id (with_hand v None (slice_index s.words n))

  -- a view that counts two passes or more, and no ended one, gives one of them
  pub record Splits (s t : State (Option P) (View I)) (id : ℕ) (v : View I) : Type 0 where
    pub two : 1 < v.passes
    pub none_ended : v.ended ≡ 0
    pub words_are : t.words ≡ s.words
    pub homes_are : t.homes ≡ s.homes
    pub views_are : t.views ≡ slice_set s.views id (less_one v) ++ one_pass v ∷ []

  -- another view with an empty hand is spent, and its counts go to this one
  pub record Joins (s t : State (Option P) (View I)) (id : ℕ) (v : View I) : Type 0 where
    pub other : ℕ
    pub gone : View I
    pub distinct : other ≢ id
    pub there : get_elem? s.views other ≡ some gone
    pub no_hand : gone.hand ≡ None
    pub words_are : t.words ≡ s.words
    pub homes_are : t.homes ≡ s.homes
    pub views_are : t.views ≡ slice_set (slice_set s.views id (with_counts v gone)) other spent

  -- the table ends as it is, however many passes the view counts
  pub record Closes (s t : State (Option P) (View I)) (id : ℕ) (v : View I) : Type 0 where
    pub there : get_elem? s.views id ≡ some v
    pub same : t ≡ s

  -- a step from s to t by the seat id, whose view is v
  pub data Step (stands : I → ℕ → ℕ → P → Type 0) (input : I) (n : ℕ)
      (s t : State (Option P) (View I)) (id : ℕ) (v : View I) : Type 0 where
    claim : Claims n s t id v → Step stands input n s t id v
    arrive_first : ArrivesFirst stands input n s t id v → Step stands input n s t id v
    arrive_second : ArrivesSecond n s t id v → Step stands input n s t id v
    crown : Crowns stands input n s t id v → Step stands input n s t id v
    split : Splits s t id v → Step stands input n s t id v
    join : Joins s t id v → Step stands input n s t id v
    close : Closes s t id v → Step stands input n s t id v
