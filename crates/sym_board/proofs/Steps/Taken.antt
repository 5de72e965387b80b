-- Each call's operation on a word is a step of the board: from an orderly state, with some new view and some slots taken or given back.
use Rattle.std.proofs.Common.{◌≡◌, ◌≢◌, ℕ, ◌+◌, ◌%◌, ◌^◌, ◌<◌, ◌≤◌, ◌⊎◌, Bool, true, false, not, List, [], ◌∷◌, length, length-set, slice_index, set, bit_or, mod-eq_of_lt, lt_of_not-le, refl, sym, ap, ◌∙◌, subst, inl, inr, ⊎_elim, arith, sum_by, Option, Some, None}
use Rattle.std.proofs.lemmas.Option.{same_Some}
use mathlib.Core.Option.{Option as Maybe, some, none}
use mathlib.Core.Logic.{dite}
use native.Mathlib.Decide.{dec_le}
use lib.ListN.{get_elem?}
use Rattle.atomic_table.specs.Table.{State, Me, Step as Told, Act, keeps, takes, chain, Valid, homes_after, carried_after, stepped}
use Rattle.atomic_table.proofs.Lists.{set_here, set_else}
use Rattle.sym_board.specs.Tree.{leaf, inner, nodes, root, place, side}
use Rattle.sym_board.specs.State.{arrivals}
use Rattle.sym_board.specs.Lawful.{IsActive, IsEmpty}
use Rattle.sym_board.specs.Core.{fresh, held, home, mark, Orderly}
use Rattle.sym_board.specs.Steps.{bit, IsBelow, with_leaf, with_end, with_hand, Claims, ArrivesFirst, ArrivesSecond, Crowns, Splits, Joins, GoesHome, TakesUp}
use Rattle.sym_board.specs.Plays.{is_leaf, hand_slots, give_all, claimed, Paired, arrived, crowned}
use Rattle.sym_board.specs.Laws.{cut_at, merged_at}
use Rattle.sym_board.specs.declared.view.View.{View}
use Rattle.sym_board.proofs.Nodes.Laws.{at_inner, root_near, root_lo, root_hi}
use Rattle.sym_board.proofs.State.Sums.{sum_le, sum_one}
use Rattle.sym_board.proofs.State.Phases.{quiet, in_phase}
use Rattle.sym_board.proofs.State.Arrivals.{side_mark}
use Rattle.sym_board.proofs.Steps.Growing.{not_parent, other_side, same_side, above_fresh}
use Rattle.sym_board.proofs.Steps.Seating.{is_active}
use Rattle.sym_board.proofs.Steps.Keeping.{met_home}
use Rattle.sym_board.proofs.Steps.Given.{may_give, goes_home, nothing_held}

-- a child's bit joins its parent's word, in which it isn't set
bit_joins : (b : Bool) (w : ℕ) → (w ≡ 0) ⊎ (w ≡ bit (not b)) → bit_or w (bit b) ≡ w + bit b
bit_joins true w (inl e) = subst (λ x. bit_or x 1 ≡ x + 1) (sym e) refl
bit_joins true w (inr e) = subst (λ x. bit_or x 1 ≡ x + 1) (sym e) refl
bit_joins false w (inl e) = subst (λ x. bit_or x 2 ≡ x + 2) (sym e) refl
bit_joins false w (inr e) = subst (λ x. bit_or x 2 ≡ x + 2) (sym e) refl

bit_some : (b : Bool) → bit b ≢ 0
bit_some true e = omega arith
bit_some false e = omega arith

module _ {P I : Type 0} (stands : I → ℕ → ℕ → P → Type 0) (told : Told (Option P)) (v : View I) (r : ℕ) (w : Me (Option P) (View I)) (c : List (ℕ × Option P)) where
  arrived_alone : r ≡ 0 → w ≡ (with_hand v None r, []) → arrived stands told (v, c) r w
  arrived_alone e is = (λ _. is, λ ne. absurd (ne e))

  arrived_met : r ≢ 0 → ((k : ℕ) → v.hand ≡ Some k → Paired stands v.leaves (place v.leaves k).above (place v.leaves k).is_left v r w) → arrived stands told (v, c) r w
  arrived_met ne f = (λ e. absurd (ne e), λ _. f)

module _ {P I : Type 0} (stands : I → ℕ → ℕ → P → Type 0) (input : I) (n seats : ℕ) where
  abbrev Rule : State (Option P) (View I) → Type 0
  Rule = Orderly stands input n seats

  ended_few : (s : State (Option P) (View I)) (o : Rule s) → sum_by (λ (v : View I). v.ended) s.views ≤ seats
  ended_few s o = let sum = o.seated.passes_sum in let few = sum_le (λ (v : View I). v.ended) (λ (v : View I). v.passes) s.views (λ j v at. ⊎_elim (λ (a : IsActive input n seats v). a.few_ended) (λ (e : IsEmpty v). let z = e.no_end in omega arith) (o.seated.each_view j v at)) in omega arith

  -- The word i becomes w in a step of the seat id, and with some view and some act the state after meets F, and what the seat then has meets T.
  abbrev pub Takes : State (Option P) (View I) → ℕ → ℕ → ℕ → List (ℕ × Option P) → (State (Option P) (View I) → Type 0) → (Me (Option P) (View I) → Type 0) → Type 0
  Takes s i w id c F T = (u : View I) × (a : Act (Option P)) × Valid s.homes c a × F (stepped s i w id c u a) × T (u, carried_after c a)

  -- a claim
  pub claim_taken : (s : State (Option P) (View I)) (o : Rule s) (id : ℕ) (v : View I) (c : List (ℕ × Option P)) (told : Told (Option P)) → get_elem? s.views id ≡ some v → v.hand ≡ None → v.ended < v.passes
      → Takes s 0 ((slice_index s.words 0 + 1) % 2 ^ 64) id c (λ t. Claims n s t id v) (claimed told (v, c) (slice_index s.words 0))
  claim_taken s o id v c told at hand more = let next : ℕ = slice_index s.words 0 in let pos : 0 < v.passes = omega arith in
      let me : IsActive input n seats v = is_active input n seats o.phase next s.views o.seated id v at pos in
      let leaves : v.leaves ≡ n = me.leaves_is in
      let sum = o.seated.claims_sum in let few_claimed = o.seated.leaves_sum in let few = ended_few s o in let n_few = o.few in let seats_few = o.few_seats in
      let small : next + 1 < 2 ^ 64 = omega arith in
      let wraps : (next + 1) % 2 ^ 64 ≡ next + 1 = mod-eq_of_lt small in
      let words : set s.words 0 ((next + 1) % 2 ^ 64) ≡ set s.words 0 (next + 1) = ap (set s.words 0) wraps in
      dite (dec_le n next)
      (λ past. (
        with_end v next,
        keeps,
        tt,
        record { no_hand = hand; not_ended = more; words_are = words; found = inr (record { past = past; homes_are = refl; views_are = refl }) },
        ((λ lt. absurd (omega arith)), (λ le. refl)),
      ))
      (λ no. let below : next < n = lt_of_not-le no in let k : ℕ = leaf next in
      let calm : o.phase k ≡ fresh = quiet (o.phase k) (o.grown.leaf_fresh next below (omega arith)) in (
        with_leaf v next,
        takes k None,
        in_phase stands input n (o.phase k) fresh s.homes k calm (o.grown.each_node k (omega arith)),
        record { no_hand = hand; not_ended = more; words_are = words; found = inl (record { below = below; homes_are = refl; views_are = refl }) },
        ((λ lt. (refl, let own = sum_one (λ (x : View I). x.claimed) s.views id v at in omega arith)), (λ le. absurd (omega arith))),
      ))

  -- the crowning of the root
  pub crown_taken : (s : State (Option P) (View I)) (o : Rule s) (id : ℕ) (v : View I) (x : P) (told : Told (Option P)) → get_elem? s.views id ≡ some v → v.hand ≡ Some (root n) → stands input 0 n x
      → Takes s n (bit_or (slice_index s.words n) 1) id (hand_slots n (root n) (Some x)) (λ t. Crowns stands input n s t id v) (crowned told (v, hand_slots n (root n) (Some x)) (slice_index s.words n))
  crown_taken s o id v x told at hand st = let k : ℕ = root n in
      let here : o.phase k ≡ held id = o.seated.hand_held id v k at hand in
      let zero : slice_index s.words n ≡ 0 = o.grown.crown ∙ ap mark here in
      let one : bit_or (slice_index s.words n) 1 ≡ 1 = subst (λ w. bit_or w 1 ≡ 1) (sym zero) refl in
      let st2 : stands input (place n k).lo (place n k).hi x = subst (λ a. stands input a (place n k).hi x) (sym (root_lo n o.some_leaf o.few)) (subst (λ b. stands input 0 b x) (sym (root_hi n o.some_leaf o.few)) st) in (
        with_hand v None (slice_index s.words n),
        give_all (is_leaf k),
        may_give n k (Some x) s.homes,
        record { piece = x; hand_is = hand; piece_stands = st2; words_are = ap (set s.words n) one; homes_are = goes_home n o.some_leaf o.few k (root_near n o.some_leaf o.few) x s.homes o.grown.long; views_are = refl },
        ap (λ (l : List (ℕ × Option P)). (with_hand v None (slice_index s.words n), l)) (nothing_held n k (Some x)),
      )

  -- the word at which a child in the hand arrives, by what its sibling shows
  word_found : (s : State (Option P) (View I)) (o : Rule s) (m : ℕ) (b : Bool) → 0 < m → m < n → mark (o.phase (side n m b)) ≡ 0
      → (mark (o.phase (side n m (not b))) ≡ 0 → slice_index s.words m ≡ 0) × (mark (o.phase (side n m (not b))) ≡ 1 → slice_index s.words m ≡ bit (not b))
  word_found s o m true pos near e = let w = o.grown.each_word m pos near in ((λ z. omega arith), (λ z. omega arith))
  word_found s o m false pos near e = let w = o.grown.each_word m pos near in ((λ z. omega arith), (λ z. omega arith))

  -- what the slots of the two children hold, by the side of the one in the hand
  record Sides (s : State (Option P) (View I)) (homes : List (Maybe (Option P))) (m : ℕ) : Type 0 where
    left : P
    right : P
    left_home : get_elem? homes (side n m true) ≡ some (some (Some left))
    right_home : get_elem? homes (side n m false) ≡ some (some (Some right))
    left_stands : stands input (place n (side n m true)).lo (place n (side n m true)).hi left
    right_stands : stands input (place n (side n m false)).lo (place n (side n m false)).hi right

  sides_of : (s : State (Option P) (View I)) (homes : List (Maybe (Option P))) (m : ℕ) (b : Bool) (x y : P)
      → get_elem? homes (side n m b) ≡ some (some (Some x)) → get_elem? homes (side n m (not b)) ≡ some (some (Some y))
      → stands input (place n (side n m b)).lo (place n (side n m b)).hi x → stands input (place n (side n m (not b))).lo (place n (side n m (not b))).hi y → Sides s homes m
  sides_of s homes m true x y p q f g = record { left = x; right = y; left_home = p; right_home = q; left_stands = f; right_stands = g }
  sides_of s homes m false x y p q f g = record { left = y; right = x; left_home = q; right_home = p; left_stands = g; right_stands = f }

  -- a node's sibling is no child of the node
  child_apart : (some_leaf : 0 < n) (few : n ≤ 64) (m : ℕ) (b : Bool) → 0 < m → m < n → IsBelow n (side n m (not b)) (side n m b) → ⊥
  child_apart some_leaf few m b pos near (l, c, pos_l, near_l, is, there) = not_parent n some_leaf few m b pos near (is ∙ ap inner (sym (same_side n some_leaf few m l (not b) c pos near pos_l near_l there).0))

  -- The slots of the inner node at m and of its children are taken, after the slots of one of these children went home.
  taken_up : (some_leaf : 0 < n) (few : n ≤ 64) (m : ℕ) (b : Bool) → 0 < m → m < n → (x : P) (before after : List (Maybe (Option P))) → length before ≡ nodes n → GoesHome n (side n m b) x before after
      → TakesUp n m (side n m b) before (set (set (set after (inner m) none) (side n m false) none) (side n m true) none)
  taken_up some_leaf few m b pos near x before after long go = let p : ℕ = inner m in let l : ℕ = side n m true in let r : ℕ = side n m false in
      let one : List (Maybe (Option P)) = set after p none in let two : List (Maybe (Option P)) = set one r none in
      let t = at_inner n some_leaf few m pos near in let nearl = (t.child true).near in let nearr = (t.child false).near in
      let long0 : length after ≡ nodes n = go.same_length ∙ long in let long1 : length one ≡ nodes n = length-set after p none ∙ long0 in let long2 : length two ≡ nodes n = length-set one r none ∙ long1 in
      let pl : p ≢ l = λ d. not_parent n some_leaf few m true pos near (sym d) in let pr : p ≢ r = λ d. not_parent n some_leaf few m false pos near (sym d) in
      let rl : r ≢ l = other_side n some_leaf few m true pos near in
      record {
        same_length = length-set two l none ∙ length-set one r none ∙ length-set after p none ∙ go.same_length;
        parent_out = set_else two l p none pl ∙ set_else one r p none pr ∙ set_here after p none (omega arith);
        side_out = elim [ true ↦ set_here two l none (omega arith) | false ↦ set_else two l r none rl ∙ set_here one r none (omega arith) ];
        others = λ j np ns. let out : get_elem? (set two l none) j ≡ get_elem? after j = set_else two l j none (ns true) ∙ set_else one r j none (ns false) ∙ set_else after p j none np in
            ⊎_elim (λ e. inl (out ∙ e)) (λ e. inr (e.0, out ∙ e.1)) (go.others j (ns b));
      }

  -- a child of the inner node at m arrives, with the piece x
  module _ (s : State (Option P) (View I)) (o : Rule s) (id m : ℕ) (b : Bool) (v : View I) (x : P) (told : Told (Option P)) (at : get_elem? s.views id ≡ some v) (pos : 0 < m) (near : m < n)
      (hand : v.hand ≡ Some (side n m b)) (some_pass : 0 < v.passes) (st : stands input (place n (side n m b)).lo (place n (side n m b)).hi x) where
    here : o.phase (side n m b) ≡ held id
    here = o.seated.hand_held id v (side n m b) at hand

    -- the sibling hasn't arrived
    pub first_taken : mark (o.phase (side n m (not b))) ≡ 0
        → Takes s m (bit_or (slice_index s.words m) (bit b)) id (hand_slots n (side n m b) (Some x)) (λ t. ArrivesFirst stands input n s t id v) (arrived stands told (v, hand_slots n (side n m b) (Some x)) (slice_index s.words m))
    first_taken z = let k : ℕ = side n m b in let r : ℕ = slice_index s.words m in
        let kid = at_inner n o.some_leaf o.few m pos near in
        let w0 : r ≡ 0 = (word_found s o m b pos near (ap mark here)).0 z in
        let sib : arrivals n s.words (side n m (not b)) ≡ mark (o.phase (side n m (not b))) = side_mark stands input n o.some_leaf o.few o.phase s.words s.homes o.grown m (not b) pos near in (
          with_hand v None r,
          give_all (is_leaf k),
          may_give n k (Some x) s.homes,
          record { parent = m; is_left = b; piece = x; positive = pos; near = near; hand_is = hand; alone = sib ∙ z; piece_stands = st; words_are = ap (set s.words m) (bit_joins b r (inl w0)); homes_are = goes_home n o.some_leaf o.few k (kid.child b).near x s.homes o.grown.long; views_are = refl },
          arrived_alone stands told v r (with_hand v None r, carried_after (hand_slots n k (Some x)) (give_all (is_leaf k))) (hand_slots n k (Some x)) w0 (ap (λ (l : List (ℕ × Option P)). (with_hand v None r, l)) (nothing_held n k (Some x))),
        )

    -- the sibling has arrived
    pub second_taken : mark (o.phase (side n m (not b))) ≡ 1
        → Takes s m (bit_or (slice_index s.words m) (bit b)) id (hand_slots n (side n m b) (Some x)) (λ t. ArrivesSecond n s t id v) (arrived stands told (v, hand_slots n (side n m b) (Some x)) (slice_index s.words m))
    second_taken one = let k : ℕ = side n m b in let q : ℕ = side n m (not b) in let p : ℕ = inner m in let c : List (ℕ × Option P) = hand_slots n k (Some x) in let r : ℕ = slice_index s.words m in
        let kid = at_inner n o.some_leaf o.few m pos near in
        let give : Act (Option P) = give_all (is_leaf k) in let homes1 : List (Maybe (Option P)) = homes_after s.homes c give in
        let go : GoesHome n k x s.homes homes1 = goes_home n o.some_leaf o.few k (kid.child b).near x s.homes o.grown.long in
        let sib : arrivals n s.words q ≡ mark (o.phase q) = side_mark stands input n o.some_leaf o.few o.phase s.words s.homes o.grown m (not b) pos near in
        let w1 : r ≡ bit (not b) = (word_found s o m b pos near (ap mark here)).1 one in
        let rests : o.phase q ≡ home = met_home stands input n seats s s id v o at some_pass m b pos near here (sib ∙ one) in
        let piece = in_phase stands input n (o.phase q) home s.homes q rests (o.grown.each_node q (kid.child (not b)).near) in
        let y : P = piece.0 in
        let qk : q ≢ k = other_side n o.some_leaf o.few m b pos near in
        let q_home : get_elem? homes1 q ≡ some (some (Some y)) = ⊎_elim (λ same. same ∙ piece.1) (λ d. absurd (child_apart o.some_leaf o.few m b pos near d.0)) (go.others q qk) in
        let calm : o.phase p ≡ fresh = above_fresh stands input n o.some_leaf o.few o.phase s.words s.homes o.grown id m b pos near here rests in
        let p_home : get_elem? homes1 p ≡ some (some None) = ⊎_elim (λ same. same ∙ in_phase stands input n (o.phase p) fresh s.homes p calm (o.grown.each_node p (omega arith))) (λ d. d.1) (go.others p (λ d. not_parent n o.some_leaf o.few m b pos near (sym d))) in
        let both : Sides s homes1 m = sides_of s homes1 m b x y go.here q_home st piece.2 in
        let lft : ℕ = side n m true in let rgt : ℕ = side n m false in
        let one_out : List (Maybe (Option P)) = set homes1 p none in let two_out : List (Maybe (Option P)) = set one_out rgt none in
        let act : Act (Option P) = chain give (chain (takes p None) (chain (takes rgt (Some both.right)) (takes lft (Some both.left)))) in
        let r_home : get_elem? one_out rgt ≡ some (some (Some both.right)) = set_else homes1 p rgt none (not_parent n o.some_leaf o.few m false pos near) ∙ both.right_home in
        let l_home : get_elem? two_out lft ≡ some (some (Some both.left)) = set_else one_out rgt lft none (other_side n o.some_leaf o.few m false pos near) ∙ set_else homes1 p lft none (not_parent n o.some_leaf o.few m true pos near) ∙ both.left_home in
        let w : View I = with_hand v (Some p) r in
        let me : IsActive input n seats v = is_active input n seats o.phase (slice_index s.words 0) s.views o.seated id v at some_pass in
        let own : Me (Option P) (View I) = (w, carried_after c act) in
        let paired : Paired stands n m b v r own = record {
          sibling = w1;
          left = both.left;
          right = both.right;
          after = ap (λ (l : List (ℕ × Option P)). (w, (lft, Some both.left) ∷ (rgt, Some both.right) ∷ (p, None) ∷ l)) (nothing_held n k (Some x));
          left_stands = λ i e. subst (λ j. stands j (place n p).lo m both.left) (same_Some input i (sym me.input_is ∙ e)) (subst (λ a. stands input a m both.left) kid.left_lo (subst (λ a. stands input (place n lft).lo a both.left) kid.left_hi both.left_stands));
          right_stands = λ i e. subst (λ j. stands j m (place n p).hi both.right) (same_Some input i (sym me.input_is ∙ e)) (subst (λ a. stands input a (place n p).hi both.right) kid.right_lo (subst (λ a. stands input (place n rgt).lo a both.right) kid.right_hi both.right_stands));
        } in (
          w,
          act,
          (may_give n k (Some x) s.homes, (p_home, (r_home, l_home))),
          record { parent = m; is_left = b; positive = pos; near = near; hand_is = hand; met = sib ∙ one; words_are = ap (set s.words m) (bit_joins b r (inr w1)); homes_are = taken_up o.some_leaf o.few m b pos near x s.homes homes1 o.grown.long go; views_are = refl },
          arrived_met stands told v r own c (λ e. bit_some (not b) (sym w1 ∙ e))
              (λ j e. let kj : k ≡ j = same_Some k j (sym hand ∙ e) in subst (λ l. Paired stands l (place l j).above (place l j).is_left v r own) (sym me.leaves_is)
              (subst (λ (i : ℕ). Paired stands n i (place n j).is_left v r own) (sym (kid.child b).above_is ∙ ap (λ i. (place n i).above) kj)
              (subst (λ (d : Bool). Paired stands n m d v r own) (sym (kid.child b).side_is ∙ ap (λ i. (place n i).is_left) kj) paired))),
        )

module _ {P I : Type 0} (s : State (Option P) (View I)) (id : ℕ) (v : View I) where
  -- a pass is cut off
  pub cut_splits : 1 < v.passes → v.ended ≡ 0 → Splits s (cut_at s id v) id v
  cut_splits two none_ended = record { two = two; none_ended = none_ended; words_are = refl; homes_are = refl; views_are = refl }

  -- another seat is merged
  pub merged_joins : (other : ℕ) (w : View I) → other ≢ id → get_elem? s.views other ≡ some w → w.hand ≡ None → Joins s (merged_at s id v other w) id v
  merged_joins other w ne there no_hand = record { other = other; gone = w; distinct = ne; there = there; no_hand = no_hand; words_are = refl; homes_are = refl; views_are = refl }
