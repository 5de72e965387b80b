-- Each step keeps the phases in agreement with the words and the slots.
use Rattle.std.proofs.Common.{◌≡◌, ◌≢◌, ℕ, ◌+◌, ◌*◌, ◌<◌, ◌≤◌, ◌⊎◌, Bool, true, false, not, List, length-set, slice_index, set, get_or-set_same, get_or-set_other, true≢false, refl, sym, ap, ◌∙◌, subst, inl, inr, ⊎_elim, arith, Option, Some, None}
use mathlib.Core.Option.{Option as Maybe, some, none}
use mathlib.Core.Logic.{dite}
use native.Mathlib.Decide.{ℕ_discrete}
use lib.ListN.{get_elem?}
use Rattle.atomic_table.proofs.Lists.{set_here, set_else}
use Rattle.sym_board.specs.Tree.{leaf, inner, nodes, root, place, side}
use Rattle.sym_board.specs.Core.{Phase, fresh, held, home, used, rank, mark, begins, Family, InPhase, Grown}
use Rattle.sym_board.specs.Steps.{bit, IsBelow, GoesHome, TakesUp}
use Rattle.sym_board.proofs.Nodes.Laws.{IsChild, at_inner}
use Rattle.sym_board.proofs.State.Phases.{put, put_here, put_else, At, at_put, put_same, quiet, is_used, mark_rank, family_like, both_used, not_above, in_phase_same, in_phase, not_some}

-- a leaf is no inner node
pub not_inner : (i m : ℕ) → 0 < m → leaf i ≢ inner m
not_inner i m h e = absurd (omega arith)

pub same_inner : (m l : ℕ) → 0 < m → 0 < l → inner m ≡ inner l → m ≡ l
same_inner m l h g e = omega arith

module _ (n : ℕ) (some_leaf : 0 < n) (few : n ≤ 64) where
  -- two children of different inner nodes are different
  pub same_side : (m l : ℕ) (b c : Bool) → 0 < m → m < n → 0 < l → l < n → side n m b ≡ side n l c → (m ≡ l) × (b ≡ c)
  same_side m l b c h near g nearl e = let x = (at_inner n some_leaf few m h near).child b in let y = (at_inner n some_leaf few l g nearl).child c in
      (sym x.above_is ∙ ap (λ k. (place n k).above) e ∙ y.above_is, sym x.side_is ∙ ap (λ k. (place n k).is_left) e ∙ y.side_is)

  pub other_side : (m : ℕ) (b : Bool) → 0 < m → m < n → side n m (not b) ≢ side n m b
  other_side m true h near e = true≢false (sym (same_side m m false true h near h near e).1)
  other_side m false h near e = true≢false (same_side m m true false h near h near e).1

  -- an inner node isn't its own child
  pub not_parent : (m : ℕ) (b : Bool) → 0 < m → m < n → side n m b ≢ inner m
  not_parent m true h near e = let t = at_inner n some_leaf few m h near in let a = sym t.left_hi ∙ ap (λ k. (place n k).hi) e in let c = t.before in omega arith
  not_parent m false h near e = let t = at_inner n some_leaf few m h near in let a = sym t.right_lo ∙ ap (λ k. (place n k).lo) e in let c = t.after in omega arith

pub out_not_some : {P : Type 0} (x : P) → ◌≡◌ {A = Maybe (Maybe (Option P))} (some none) (some (some (Some x))) → ⊥
out_not_some x e = cc

module _ {P I : Type 0} (stands : I → ℕ → ℕ → P → Type 0) (input : I) (n : ℕ) (some_leaf : 0 < n) (few : n ≤ 64) (phase : ℕ → Phase) (words : List ℕ) (homes : List (Maybe (Option P))) (g : Grown stands input n phase words homes) where
  -- a leaf is claimed
  pub grown_claim : (id : ℕ) → slice_index words 0 < n → Grown stands input n (put phase (leaf (slice_index words 0)) (held id)) (set words 0 (slice_index words 0 + 1)) (set homes (leaf (slice_index words 0)) none)
  grown_claim id below = let next : ℕ = slice_index words 0 in let k : ℕ = leaf next in let ph : ℕ → Phase = put phase k (held id) in
      let calm : phase k ≡ fresh = quiet (phase k) (g.leaf_fresh next below (omega arith)) in
      let ranks : (j : ℕ) → rank (ph j) ≡ rank (phase j) = put_same rank phase k (held id) (ap rank (sym calm)) in
      let marks : (j : ℕ) → mark (ph j) ≡ mark (phase j) = put_same mark phase k (held id) (ap mark (sym calm)) in
      let word : (m : ℕ) → m ≢ 0 → slice_index (set words 0 (next + 1)) m ≡ slice_index words m = λ m ne. get_or-set_other words 0 m (next + 1) 0 ne in
      let zeroth : slice_index (set words 0 (next + 1)) 0 ≡ next + 1 = get_or-set_same words 0 (next + 1) 0 (omega (arith, g.wide)) in
      record {
        wide = length-set words 0 (next + 1) ∙ g.wide;
        long = length-set homes k none ∙ g.long;
        each_node = λ j h. elim (at_put phase k (held id) j) as (λ _. InPhase stands input n (set homes k none) j (ph j)) [
          | inl t ↦ in_phase stands input n (held id) (ph j) (set homes k none) j (sym t.1) (subst (λ i. get_elem? (set homes k none) i ≡ some none) (sym t.0) (set_here homes k none (omega (arith, g.long))))
          | inr t ↦ in_phase stands input n (phase j) (ph j) (set homes k none) j (sym t.1) (in_phase_same stands input n (phase j) homes (set homes k none) j (set_else homes k j none t.0) (g.each_node j h))
        ];
        leaf_begun = λ i h lt. elim (at_put phase k (held id) (leaf i)) as (λ _. begins (ph (leaf i)) ≡ 1) [ inl t ↦ ap begins t.1 | inr t ↦ ap begins t.1 ∙ g.leaf_begun i h (let ne : leaf i ≢ k = t.0 in omega arith) ];
        leaf_fresh = λ i h le. ap begins (put_else phase k (held id) (leaf i) (λ e. absurd (omega arith))) ∙ g.leaf_fresh i h (omega arith);
        each_word = λ m h near. word m (λ e. absurd (omega arith)) ∙ g.each_word m h near ∙ (let a = marks (side n m true) in let b = marks (side n m false) in omega arith);
        each_family = λ m h near. family_like (phase (side n m true)) (phase (side n m false)) (phase (inner m)) (ph (side n m true)) (ph (side n m false)) (ph (inner m)) (ranks (side n m true)) (ranks (side n m false)) (ap begins (put_else phase k (held id) (inner m) (λ e. not_inner next m h (sym e)))) (g.each_family m h near);
        crown = word n (λ e. absurd (omega arith)) ∙ g.crown ∙ sym (marks (root n));
        not_joined = let a = ranks (root n) in let b = g.not_joined in omega arith;
      }

  -- a claim finds every leaf claimed
  pub grown_past : n ≤ slice_index words 0 → Grown stands input n phase (set words 0 (slice_index words 0 + 1)) homes
  grown_past past = let next : ℕ = slice_index words 0 in
      let word : (m : ℕ) → m ≢ 0 → slice_index (set words 0 (next + 1)) m ≡ slice_index words m = λ m ne. get_or-set_other words 0 m (next + 1) 0 ne in
      let zeroth : slice_index (set words 0 (next + 1)) 0 ≡ next + 1 = get_or-set_same words 0 (next + 1) 0 (omega (arith, g.wide)) in
      record {
        wide = length-set words 0 (next + 1) ∙ g.wide;
        long = g.long;
        each_node = g.each_node;
        leaf_begun = λ i h lt. g.leaf_begun i h (omega arith);
        leaf_fresh = λ i h le. absurd (omega arith);
        each_word = λ m h near. word m (λ e. absurd (omega arith)) ∙ g.each_word m h near;
        each_family = g.each_family;
        crown = word n (λ e. absurd (omega arith)) ∙ g.crown;
        not_joined = g.not_joined;
      }

  -- the children of a begun inner node are used
  pub below_used : (j k : ℕ) → begins (phase k) ≡ 1 → IsBelow n j k → phase j ≡ used
  below_used j k e (m, true, h, near, is, there) = ap phase there ∙ is_used (phase (side n m true)) (both_used (phase (side n m true)) (phase (side n m false)) (phase (inner m)) (g.each_family m h near) (ap (λ i. begins (phase i)) (sym is) ∙ e)).0
  below_used j k e (m, false, h, near, is, there) = ap phase there ∙ is_used (phase (side n m false)) (both_used (phase (side n m true)) (phase (side n m false)) (phase (inner m)) (g.each_family m h near) (ap (λ i. begins (phase i)) (sym is) ∙ e)).1

  -- a slot that went home empty agrees with its node's phase
  pub below_agrees : (j k : ℕ) (after : List (Maybe (Option P))) → begins (phase k) ≡ 1 → IsBelow n j k → get_elem? after j ≡ some (some None) → InPhase stands input n after j (phase j)
  below_agrees j k after e b there = in_phase stands input n used (phase j) after j (sym (below_used j k e b)) (λ x d. not_some x (sym there ∙ d))

  -- the slots after the node k went home, where k's phase was held
  pub home_nodes : (k : ℕ) (x : P) (after : List (Maybe (Option P))) → begins (phase k) ≡ 1 → GoesHome n k x homes after → stands input (place n k).lo (place n k).hi x → (j : ℕ) → j < nodes n → At phase k home j → InPhase stands input n after j (put phase k home j)
  home_nodes k x after e go st j h (inl t) = in_phase stands input n home (put phase k home j) after j (sym t.1) (x, ap (get_elem? after) t.0 ∙ go.here, subst (λ i. stands input (place n i).lo (place n i).hi x) (sym t.0) st)
  home_nodes k x after e go st j h (inr t) = in_phase stands input n (phase j) (put phase k home j) after j (sym t.1) (elim (go.others j t.0) as (λ _. InPhase stands input n after j (phase j)) [ inl same ↦ in_phase_same stands input n (phase j) homes after j same (g.each_node j h) | inr b ↦ below_agrees j k after e b.0 b.1 ])

  -- a number of the two children, named by one of them
  pub sides_sum : (f : ℕ → ℕ) (m : ℕ) (b : Bool) → f (side n m b) + f (side n m (not b)) ≡ f (side n m true) + f (side n m false)
  sides_sum f m true = refl
  sides_sum f m false = omega arith

  -- what an arrival adds to its parent's word
  pub marks_after : (ph : ℕ → Phase) (m : ℕ) (b : Bool) → mark (phase (side n m b)) ≡ 0 → mark (ph (side n m b)) ≡ 1 → mark (ph (side n m (not b))) ≡ mark (phase (side n m (not b)))
      → mark (ph (side n m true)) + 2 * mark (ph (side n m false)) ≡ (mark (phase (side n m true)) + 2 * mark (phase (side n m false))) + bit b
  marks_after ph m true a c d = omega arith
  marks_after ph m false a c d = omega arith

  -- the words after an arrival at the inner node at m
  pub words_after : (ph : ℕ → Phase) (m : ℕ) (b : Bool) → 0 < m → m < n → mark (phase (side n m b)) ≡ 0 → mark (ph (side n m b)) ≡ 1
      → ((j : ℕ) → j ≢ side n m b → mark (ph j) ≡ mark (phase j)) → (l : ℕ) → 0 < l → l < n
      → slice_index (set words m (slice_index words m + bit b)) l ≡ mark (ph (side n l true)) + 2 * mark (ph (side n l false))
  words_after ph m b h near a c d l g0 nearl = let F : Type 0 = slice_index (set words m (slice_index words m + bit b)) l ≡ mark (ph (side n l true)) + 2 * mark (ph (side n l false)) in
      dite (ℕ_discrete l m)
      (λ e. subst (λ i. slice_index (set words m (slice_index words m + bit b)) i ≡ mark (ph (side n i true)) + 2 * mark (ph (side n i false))) (sym e)
      (get_or-set_same words m (slice_index words m + bit b) 0 (omega (arith, g.wide)) ∙ ap (λ w. w + bit b) (g.each_word m h near) ∙ sym (marks_after ph m b a c (d (side n m (not b)) (other_side n some_leaf few m b h near)))))
      (λ ne. get_or-set_other words m l (slice_index words m + bit b) 0 ne ∙ g.each_word l g0 nearl ∙ (let s = d (side n l true) (λ q. ne (same_side n some_leaf few l m true b g0 nearl h near q).0) in let t = d (side n l false) (λ q. ne (same_side n some_leaf few l m false b g0 nearl h near q).0) in omega arith))

  -- a child of the inner node at m arrives, and its sibling hasn't
  pub grown_first : (id m : ℕ) (b : Bool) (x : P) (after : List (Maybe (Option P))) → 0 < m → m < n → phase (side n m b) ≡ held id → mark (phase (side n m (not b))) ≡ 0
      → GoesHome n (side n m b) x homes after → stands input (place n (side n m b)).lo (place n (side n m b)).hi x
      → Grown stands input n (put phase (side n m b) home) (set words m (slice_index words m + bit b)) after
  grown_first id m b x after h near mine alone go st = let k : ℕ = side n m b in let ph : ℕ → Phase = put phase k home in
      let starts : (j : ℕ) → begins (ph j) ≡ begins (phase j) = put_same begins phase k home (ap begins (sym mine)) in
      let ranks : (j : ℕ) → j ≢ k → rank (ph j) ≡ rank (phase j) = λ j ne. ap rank (put_else phase k home j ne) in
      let child : IsChild n m b = (at_inner n some_leaf few m h near).child b in
      let word : (l : ℕ) → l ≢ m → slice_index (set words m (slice_index words m + bit b)) l ≡ slice_index words l = λ l ne. get_or-set_other words m l (slice_index words m + bit b) 0 ne in
      let zeroth = word 0 (λ e. absurd (omega arith)) in
      record {
        wide = length-set words m (slice_index words m + bit b) ∙ g.wide;
        long = go.same_length ∙ g.long;
        each_node = λ j hj. home_nodes k x after (ap begins mine) go st j hj (at_put phase k home j);
        leaf_begun = λ i hi lt. starts (leaf i) ∙ g.leaf_begun i hi (omega arith);
        leaf_fresh = λ i hi le. starts (leaf i) ∙ g.leaf_fresh i hi (omega arith);
        each_word = words_after ph m b h near (ap mark mine) (ap mark (put_here phase k home k refl)) (λ j ne. ap mark (put_else phase k home j ne));
        each_family = λ l g0 nearl. dite (ℕ_discrete l m)
            (λ e. subst (λ i. Family (ph (side n i true)) (ph (side n i false)) (ph (inner i))) (sym e)
            (let zero_mine : rank (phase k) ≡ 0 = ap rank mine in
            let zero_other : rank (phase (side n m (not b))) ≡ 0 = (mark_rank (phase (side n m (not b)))).0 alone in
            let old = sides_sum (λ j. rank (phase j)) m b in
            let new = sides_sum (λ j. rank (ph j)) m b in
            let one : rank (ph k) ≡ 1 = ap rank (put_here phase k home k refl) in
            let none_other = ranks (side n m (not b)) (other_side n some_leaf few m b h near) in
            let up = not_above (phase (side n m true)) (phase (side n m false)) (phase (inner m)) (g.each_family m h near) (omega arith) in
            inr (omega arith, starts (inner m) ∙ up.0)))
            (λ ne. family_like (phase (side n l true)) (phase (side n l false)) (phase (inner l)) (ph (side n l true)) (ph (side n l false)) (ph (inner l))
            (ranks (side n l true) (λ q. ne (same_side n some_leaf few l m true b g0 nearl h near q).0)) (ranks (side n l false) (λ q. ne (same_side n some_leaf few l m false b g0 nearl h near q).0)) (starts (inner l)) (g.each_family l g0 nearl));
        crown = word n (λ e. absurd (omega arith)) ∙ g.crown ∙ ap mark (sym (put_else phase k home (root n) (λ e. child.not_root (sym e))));
        not_joined = let a = ranks (root n) (λ e. child.not_root (sym e)) in let c = g.not_joined in omega arith;
      }

  -- the root is crowned
  pub grown_crown : (id : ℕ) (x : P) (after : List (Maybe (Option P))) → phase (root n) ≡ held id → GoesHome n (root n) x homes after → stands input (place n (root n)).lo (place n (root n)).hi x
      → Grown stands input n (put phase (root n) home) (set words n 1) after
  grown_crown id x after mine go st = let k : ℕ = root n in let ph : ℕ → Phase = put phase k home in
      let starts : (j : ℕ) → begins (ph j) ≡ begins (phase j) = put_same begins phase k home (ap begins (sym mine)) in
      let word : (l : ℕ) → l ≢ n → slice_index (set words n 1) l ≡ slice_index words l = λ l ne. get_or-set_other words n l 1 0 ne in
      let zeroth = word 0 (λ e. absurd (omega arith)) in
      let same : (m : ℕ) (b : Bool) → 0 < m → m < n → ph (side n m b) ≡ phase (side n m b) = λ m b h near. put_else phase k home (side n m b) ((at_inner n some_leaf few m h near).child b).not_root in
      record {
        wide = length-set words n 1 ∙ g.wide;
        long = go.same_length ∙ g.long;
        each_node = λ j hj. home_nodes k x after (ap begins mine) go st j hj (at_put phase k home j);
        leaf_begun = λ i hi lt. starts (leaf i) ∙ g.leaf_begun i hi (omega arith);
        leaf_fresh = λ i hi le. starts (leaf i) ∙ g.leaf_fresh i hi (omega arith);
        each_word = λ m h near. word m (λ e. absurd (omega arith)) ∙ g.each_word m h near ∙ (let a = ap mark (same m true h near) in let c = ap mark (same m false h near) in omega arith);
        each_family = λ m h near. family_like (phase (side n m true)) (phase (side n m false)) (phase (inner m)) (ph (side n m true)) (ph (side n m false)) (ph (inner m)) (ap rank (same m true h near)) (ap rank (same m false h near)) (starts (inner m)) (g.each_family m h near);
        crown = get_or-set_same words n 1 0 (omega (arith, g.wide)) ∙ sym (ap mark (put_here phase k home k refl));
        not_joined = let a = ap rank (put_here phase k home k refl) in omega arith;
      }

  -- the phases after a second arrival at the inner node at m by its child on the side b
  pub raised : ℕ → ℕ → Bool → ℕ → Phase
  raised id m b = put (put (put phase (side n m b) used) (side n m (not b)) used) (inner m) (held id)

  pub raised_above : (id m : ℕ) (b : Bool) → raised id m b (inner m) ≡ held id
  unfolding raised
  raised_above id m b = put_here (put (put phase (side n m b) used) (side n m (not b)) used) (inner m) (held id) (inner m) refl

  pub raised_else : (id m : ℕ) (b : Bool) (j : ℕ) → j ≢ inner m → j ≢ side n m b → j ≢ side n m (not b) → raised id m b j ≡ phase j
  unfolding raised
  raised_else id m b j p q r = put_else (put (put phase (side n m b) used) (side n m (not b)) used) (inner m) (held id) j p ∙ put_else (put phase (side n m b) used) (side n m (not b)) used j r ∙ put_else phase (side n m b) used j q

  pub raised_used : (id m : ℕ) (b : Bool) (j : ℕ) → j ≢ inner m → (j ≡ side n m b) ⊎ (j ≡ side n m (not b)) → raised id m b j ≡ used
  unfolding raised
  raised_used id m b j p (inr e) = put_else (put (put phase (side n m b) used) (side n m (not b)) used) (inner m) (held id) j p ∙ put_here (put phase (side n m b) used) (side n m (not b)) used j e
  raised_used id m b j p (inl e) = put_else (put (put phase (side n m b) used) (side n m (not b)) used) (inner m) (held id) j p ∙ dite (ℕ_discrete j (side n m (not b)))
      (λ d. put_here (put phase (side n m b) used) (side n m (not b)) used j d) (λ ne. put_else (put phase (side n m b) used) (side n m (not b)) used j ne ∙ put_here phase (side n m b) used j e)

  pub data Raised (id m : ℕ) (b : Bool) (j : ℕ) : Type 0 where
    parent : j ≡ inner m → raised id m b j ≡ held id → Raised id m b j
    child : j ≢ inner m → (j ≡ side n m b) ⊎ (j ≡ side n m (not b)) → raised id m b j ≡ used → Raised id m b j
    other : j ≢ inner m → j ≢ side n m b → j ≢ side n m (not b) → raised id m b j ≡ phase j → Raised id m b j

  pub raised_tells : (id m : ℕ) (b : Bool) (j : ℕ) → Raised id m b j
  raised_tells id m b j = dite (ℕ_discrete j (inner m))
      (λ e. parent e (ap (raised id m b) e ∙ raised_above id m b))
      (λ p. dite (ℕ_discrete j (side n m b)) (λ e. child p (inl e) (raised_used id m b j p (inl e)))
      (λ q. dite (ℕ_discrete j (side n m (not b))) (λ e. child p (inr e) (raised_used id m b j p (inr e))) (λ r. other p q r (raised_else id m b j p q r))))

  neither : (m : ℕ) (b : Bool) (j : ℕ) → j ≢ side n m b → j ≢ side n m (not b) → (c : Bool) → j ≢ side n m c
  neither m true j p q true = p
  neither m true j p q false = q
  neither m false j p q true = q
  neither m false j p q false = p

  pub raised_node : (id m : ℕ) (b : Bool) (after : List (Maybe (Option P))) → 0 < m → m < n → phase (side n m b) ≡ held id → TakesUp n m (side n m b) homes after
      → (j : ℕ) → j < nodes n → Raised id m b j → InPhase stands input n after j (raised id m b j)
  raised_node id m b after h near mine take j hj (parent e d) = in_phase stands input n (held id) (raised id m b j) after j (sym d) (ap (get_elem? after) e ∙ take.parent_out)
  raised_node id m b after h near mine take j hj (child e s d) = in_phase stands input n used (raised id m b j) after j (sym d) (λ x there. out_not_some x (sym (⊎_elim (λ w. ap (get_elem? after) w ∙ take.side_out b) (λ w. ap (get_elem? after) w ∙ take.side_out (not b)) s) ∙ there))
  raised_node id m b after h near mine take j hj (other np nk nq d) = in_phase stands input n (phase j) (raised id m b j) after j (sym d)
      (elim (take.others j np (neither m b j nk nq)) as (λ _. InPhase stands input n after j (phase j)) [ inl same ↦ in_phase_same stands input n (phase j) homes after j same (g.each_node j hj) | inr t ↦ below_agrees j (side n m b) after (ap begins mine) t.0 t.1 ])

  -- where one child is in a hand and the other one's piece is at home, the node above them is fresh
  pub above_fresh : (id m : ℕ) (b : Bool) → 0 < m → m < n → phase (side n m b) ≡ held id → phase (side n m (not b)) ≡ home → phase (inner m) ≡ fresh
  above_fresh id m b h near mine met = let old = sides_sum (λ j. rank (phase j)) m b in let a = ap rank mine in let c = ap rank met in
      quiet (phase (inner m)) (not_above (phase (side n m true)) (phase (side n m false)) (phase (inner m)) (g.each_family m h near) (omega arith)).0

  -- a child of the inner node at m arrives, and its sibling has
  pub grown_second : (id m : ℕ) (b : Bool) (after : List (Maybe (Option P))) → 0 < m → m < n → phase (side n m b) ≡ held id → phase (side n m (not b)) ≡ home
      → TakesUp n m (side n m b) homes after
      → Grown stands input n (raised id m b) (set words m (slice_index words m + bit b)) after
  grown_second id m b after h near mine met take = let k : ℕ = side n m b in let q : ℕ = side n m (not b) in let p : ℕ = inner m in let ph : ℕ → Phase = raised id m b in
      let calm : phase p ≡ fresh = above_fresh id m b h near mine met in
      let kin : (c : Bool) → IsChild n m c = (at_inner n some_leaf few m h near).child in
      let ranks : (j : ℕ) → j ≢ k → j ≢ q → rank (ph j) ≡ rank (phase j) = λ j nk nq. elim (raised_tells id m b j) as (λ _. rank (ph j) ≡ rank (phase j)) [ parent e d ↦ ap rank d ∙ ap rank (sym (ap phase e ∙ calm)) | child e s d ↦ absurd (⊎_elim nk nq s) | other _ _ _ d ↦ ap rank d ] in
      let marks : (j : ℕ) → j ≢ k → mark (ph j) ≡ mark (phase j) = λ j nk. elim (raised_tells id m b j) as (λ _. mark (ph j) ≡ mark (phase j)) [ parent e d ↦ ap mark d ∙ ap mark (sym (ap phase e ∙ calm)) | child e s d ↦ ⊎_elim (λ w. absurd (nk w)) (λ w. ap mark d ∙ sym (ap mark (ap phase w ∙ met))) s | other _ _ _ d ↦ ap mark d ] in
      let starts : (j : ℕ) → j ≢ p → begins (ph j) ≡ begins (phase j) = λ j np. elim (raised_tells id m b j) as (λ _. begins (ph j) ≡ begins (phase j)) [ parent e d ↦ absurd (np e) | child e s d ↦ ap begins d ∙ sym (⊎_elim (λ w. ap begins (ap phase w ∙ mine)) (λ w. ap begins (ap phase w ∙ met)) s) | other _ _ _ d ↦ ap begins d ] in
      let word : (l : ℕ) → l ≢ m → slice_index (set words m (slice_index words m + bit b)) l ≡ slice_index words l = λ l ne. get_or-set_other words m l (slice_index words m + bit b) 0 ne in
      let zeroth = word 0 (λ e. absurd (omega arith)) in
      let apart : (c : Bool) → side n m c ≢ p = λ c. not_parent n some_leaf few m c h near in
      record {
        wide = length-set words m (slice_index words m + bit b) ∙ g.wide;
        long = take.same_length ∙ g.long;
        each_node = λ j hj. raised_node id m b after h near mine take j hj (raised_tells id m b j);
        leaf_begun = λ i hi lt. starts (leaf i) (not_inner i m h) ∙ g.leaf_begun i hi (omega arith);
        leaf_fresh = λ i hi le. starts (leaf i) (not_inner i m h) ∙ g.leaf_fresh i hi (omega arith);
        each_word = words_after ph m b h near (ap mark mine) (ap mark (raised_used id m b k (apart b) (inl refl))) marks;
        each_family = λ l g0 nearl. dite (ℕ_discrete l m)
            (λ e. subst (λ i. Family (ph (side n i true)) (ph (side n i false)) (ph (inner i))) (sym e)
            (let a = ap rank (raised_used id m b k (apart b) (inl refl)) in let c = ap rank (raised_used id m b q (apart (not b)) (inr refl)) in let new = sides_sum (λ j. rank (ph j)) m b in
            inl (omega arith, ap begins (raised_above id m b))))
            (λ ne. family_like (phase (side n l true)) (phase (side n l false)) (phase (inner l)) (ph (side n l true)) (ph (side n l false)) (ph (inner l))
            (ranks (side n l true) (λ e. ne (same_side n some_leaf few l m true b g0 nearl h near e).0) (λ e. ne (same_side n some_leaf few l m true (not b) g0 nearl h near e).0))
            (ranks (side n l false) (λ e. ne (same_side n some_leaf few l m false b g0 nearl h near e).0) (λ e. ne (same_side n some_leaf few l m false (not b) g0 nearl h near e).0))
            (starts (inner l) (λ e. ne (same_inner l m g0 h e))) (g.each_family l g0 nearl));
        crown = word n (λ e. absurd (omega arith)) ∙ g.crown ∙ sym (marks (root n) (λ e. (kin b).not_root (sym e)));
        not_joined = let a = ranks (root n) (λ e. (kin b).not_root (sym e)) (λ e. (kin (not b)).not_root (sym e)) in let c = g.not_joined in omega arith;
      }
