-- An orderly state is lawful.
use Rattle.std.proofs.Common.{◌≡◌, ◌≢◌, ℕ, ◌+◌, ◌/◌, ◌%◌, ◌<◌, ◌≤◌, ◌⊎◌, Bool, true, false, not, slice_index, refl, sym, ap, ◌∙◌, subst, inl, inr, ⊎_elim, eq-zero-or-pos, lt_of_not-le, arith, Option, Some, None, sum_by}
use mathlib.Core.Option.{Option as Maybe, some}
use mathlib.Core.Logic.{dite}
use native.Mathlib.Decide.{dec_le, ℕ_discrete}
use lib.ListN.{get_elem?}
use Rattle.atomic_table.specs.Table.{State}
use Rattle.sym_board.specs.Tree.{leaf, inner, nodes, root, place, side}
use Rattle.sym_board.specs.State.{arrivals, sibling, HasBegun, IsInHand}
use Rattle.sym_board.specs.Lawful.{IsFresh, IsHeld, HasArrived, IsWaiting, Rests, IsLawful}
use Rattle.sym_board.specs.Core.{Phase, fresh, held, home, used, rank, mark, begins, Orderly}
use Rattle.sym_board.specs.declared.view.View.{View}
use Rattle.sym_board.proofs.Nodes.Laws.{at_node, at_inner}
use Rattle.sym_board.proofs.State.Sums.{sum_one}
use Rattle.sym_board.proofs.State.Phases.{quiet, is_used, mark_rank, both_used, not_some, in_phase}
use Rattle.sym_board.proofs.State.Arrivals.{arrivals_mark}
use Rattle.sym_board.proofs.Steps.Growing.{sides_sum, out_not_some}
use Rattle.sym_board.proofs.Steps.Keeping.{same_held}

-- each node is a leaf or the inner node at some m
pub node_kind : (n k : ℕ) → k < nodes n → ((i : ℕ) × (k ≡ leaf i) × (i < n)) ⊎ ((m : ℕ) × (k ≡ inner m) × (0 < m) × (m < n))
node_kind n k h = dite (ℕ_discrete (k % 2) 0) (λ e. inl (k / 2, omega arith, omega arith)) (λ ne. inr ((k + 1) / 2, omega arith, omega arith, omega arith))

pub begins_either : (p : Phase) → (begins p ≡ 0) ⊎ (begins p ≡ 1)
begins_either fresh = inl refl
begins_either (held j) = inr refl
begins_either home = inr refl
begins_either used = inr refl

fresh_held : (j : ℕ) → fresh ≡ held j → ⊥
fresh_held j e = cc

home_held : (j : ℕ) → home ≡ held j → ⊥
home_held j e = cc

used_held : (j : ℕ) → used ≡ held j → ⊥
used_held j e = cc

none_out : {P : Type 0} (x : P) → ◌≡◌ {A = Maybe (Maybe (Option P))} (some (some None)) (some (some (Some x))) → ⊥
none_out x e = cc

module _ {P I : Type 0} (stands : I → ℕ → ℕ → P → Type 0) (input : I) (n seats : ℕ) (s : State (Option P) (View I)) (o : Orderly stands input n seats s) where
  some_leaf : 0 < n
  some_leaf = o.some_leaf

  shown : (k : ℕ) → k < nodes n → arrivals n s.words k ≡ mark (o.phase k)
  shown = arrivals_mark stands input n o.some_leaf o.few o.phase s.words s.homes o.grown

  pub begun_begins : (k : ℕ) → k < nodes n → HasBegun n s.words k → begins (o.phase k) ≡ 1
  begun_begins k h (inl (i, e, lt)) = ap (λ j. begins (o.phase j)) e ∙ o.grown.leaf_begun i (omega arith) lt
  begun_begins k h (inr (m, e, pos, near, l, r)) = let t = at_inner n o.some_leaf o.few m pos near in
      let a : mark (o.phase (side n m true)) ≡ 1 = sym (shown (side n m true) (t.child true).near) ∙ l in
      let b : mark (o.phase (side n m false)) ≡ 1 = sym (shown (side n m false) (t.child false).near) ∙ r in
      let x = mark_rank (o.phase (side n m true)) in let y = mark_rank (o.phase (side n m false)) in
      let a2 : rank (o.phase (side n m true)) ≢ 0 = λ z. let w = x.1 z in absurd (omega arith) in
      let b2 : rank (o.phase (side n m false)) ≢ 0 = λ z. let w = y.1 z in absurd (omega arith) in
      ap (λ j. begins (o.phase j)) e ∙ ⊎_elim (λ q. q.1) (λ q. let few = q.0 in absurd (omega arith)) (o.grown.each_family m pos near)

  pub begins_begun : (k : ℕ) → k < nodes n → begins (o.phase k) ≡ 1 → HasBegun n s.words k
  begins_begun k h e = ⊎_elim
      (λ l. dite (dec_le (slice_index s.words 0) l.0)
      (λ le. let z = sym (ap (λ j. begins (o.phase j)) l.1 ∙ o.grown.leaf_fresh l.0 l.2 le) ∙ e in absurd (omega arith))
      (λ lt. inl (l.0, l.1, lt_of_not-le lt)))
      (λ l. let m : ℕ = l.0 in let t = at_inner n o.some_leaf o.few m l.2 l.3 in
      let u = both_used (o.phase (side n m true)) (o.phase (side n m false)) (o.phase (inner m)) (o.grown.each_family m l.2 l.3) (sym (ap (λ j. begins (o.phase j)) l.1) ∙ e) in
      inr (m, l.1, l.2, l.3, shown (side n m true) (t.child true).near ∙ ap mark (is_used (o.phase (side n m true)) u.0), shown (side n m false) (t.child false).near ∙ ap mark (is_used (o.phase (side n m false)) u.1)))
      (node_kind n k h)

  hand_phase : (j k : ℕ) → IsInHand s.views j k → o.phase k ≡ held j
  hand_phase j k t = o.seated.hand_held j t.0 k t.1 t.2

  fresh_case : (k : ℕ) → k < nodes n → o.phase k ≡ fresh → IsFresh n s k
  fresh_case k h e = record { no_hand = λ j t. fresh_held j (sym e ∙ hand_phase j k t); not_arrived = shown k h ∙ ap mark e; at_home = in_phase stands input n (o.phase k) fresh s.homes k e (o.grown.each_node k h) }

  begun_case : (k : ℕ) → k < nodes n → (p : Phase) → o.phase k ≡ p → begins p ≡ 1 → IsHeld n s k ⊎ HasArrived n s k
  begun_case k h fresh e b = absurd (omega arith)
  begun_case k h (held j) e b = inl (record { holder = j; held = o.seated.held_hand k j h e; once = λ i t. sym (same_held j i (sym e ∙ hand_phase i k t)); not_arrived = shown k h ∙ ap mark e; out = in_phase stands input n (o.phase k) (held j) s.homes k e (o.grown.each_node k h) })
  begun_case k h home e b = inr (record { no_hand = λ j t. home_held j (sym e ∙ hand_phase j k t); arrived = shown k h ∙ ap mark e })
  begun_case k h used e b = inr (record { no_hand = λ j t. used_held j (sym e ∙ hand_phase j k t); arrived = shown k h ∙ ap mark e })

  -- the ranks of a node and its sibling, by the family above them
  family_ranks : (k : ℕ) → k < nodes n → k ≢ root n → ((rank (o.phase k) + rank (o.phase (sibling n k)) ≡ 4) ⊎ (rank (o.phase k) + rank (o.phase (sibling n k)) ≤ 1)) × (sibling n k < nodes n)
  family_ranks k h ne = let u = (at_node n o.some_leaf o.few k h).hangs ne in let m : ℕ = (place n k).above in let b : Bool = (place n k).is_left in
      let sum : rank (o.phase k) + rank (o.phase (sibling n k)) ≡ rank (o.phase (side n m true)) + rank (o.phase (side n m false)) = subst (λ j. rank (o.phase j) + rank (o.phase (side n m (not b))) ≡ rank (o.phase (side n m true)) + rank (o.phase (side n m false))) u.is_side (sides_sum stands input n o.some_leaf o.few o.phase s.words s.homes o.grown (λ j. rank (o.phase j)) m b) in
      (⊎_elim (λ q. inl (sum ∙ q.0)) (λ q. inr (let z = q.0 in omega arith)) (o.grown.each_family m u.positive u.near), ((at_inner n o.some_leaf o.few m u.positive u.near).child (not b)).near)

  waiting_case : (k : ℕ) → k < nodes n → (p : Phase) → o.phase k ≡ p → IsWaiting n s k → Rests stands input n s k
  waiting_case k h fresh e w = let a = sym (shown k h ∙ ap mark e) ∙ w.arrived in absurd (omega arith)
  waiting_case k h (held j) e w = let a = sym (shown k h ∙ ap mark e) ∙ w.arrived in absurd (omega arith)
  waiting_case k h home e w = in_phase stands input n (o.phase k) home s.homes k e (o.grown.each_node k h)
  waiting_case k h used e w = let two : rank (o.phase k) ≡ 2 = ap rank e in dite (ℕ_discrete k (root n))
      (λ d. let one = o.grown.not_joined in let same = ap (λ j. rank (o.phase j)) d in absurd (omega arith))
      (λ ne. let f = family_ranks k h ne in let zero : mark (o.phase (sibling n k)) ≡ 0 = sym (shown (sibling n k) f.1) ∙ w.alone ne in
      let z : rank (o.phase (sibling n k)) ≡ 0 = (mark_rank (o.phase (sibling n k))).0 zero in absurd (⊎_elim (λ q. omega arith) (λ q. omega arith) f.0))

  alone_case : (k : ℕ) → k < nodes n → o.phase k ≡ home → k ≢ root n → arrivals n s.words (sibling n k) ≡ 0
  alone_case k h e ne = let f = family_ranks k h ne in let one : rank (o.phase k) ≡ 1 = ap rank e in let few : rank (o.phase (sibling n k)) ≤ 2 = (mark_rank (o.phase (sibling n k))).3 in
      shown (sibling n k) f.1 ∙ (mark_rank (o.phase (sibling n k))).1 (⊎_elim (λ q. omega arith) (λ q. omega arith) f.0)

  other_case : (k : ℕ) (x : P) → k < nodes n → (p : Phase) → o.phase k ≡ p → get_elem? s.homes k ≡ some (some (Some x)) → IsWaiting n s k
  other_case k x h fresh e at = absurd (not_some x (sym (in_phase stands input n (o.phase k) fresh s.homes k e (o.grown.each_node k h)) ∙ at))
  other_case k x h (held j) e at = absurd (out_not_some x (sym (in_phase stands input n (o.phase k) (held j) s.homes k e (o.grown.each_node k h)) ∙ at))
  other_case k x h home e at = record { arrived = shown k h ∙ ap mark e; alone = alone_case k h e }
  other_case k x h used e at = absurd (in_phase stands input n (o.phase k) used s.homes k e (o.grown.each_node k h) x at)

  word_few : (m : ℕ) → 0 < m → m < n → slice_index s.words m < 4
  word_few m pos near = let w = o.grown.each_word m pos near in let a : mark (o.phase (side n m true)) ≤ 1 = (mark_rank (o.phase (side n m true))).2 in let b : mark (o.phase (side n m false)) ≤ 1 = (mark_rank (o.phase (side n m false))).2 in omega arith

  pub lawful : IsLawful stands input n seats s
  lawful = let next : ℕ = slice_index s.words 0 in let both = o.seated.claims_sum in let few = o.seated.leaves_sum in
      let late : 0 < sum_by (λ (v : View I). v.ended) s.views → sum_by (λ (v : View I). v.claimed) s.views ≡ n = o.seated.ended_late in
      record {
        word_count = o.grown.wide;
        slot_count = o.grown.long;
        two_bits = word_few;
        one_bit = let w = o.grown.crown in let a : mark (o.phase (root n)) ≤ 1 = (mark_rank (o.phase (root n))).2 in omega arith;
        each_view = o.seated.each_view;
        passes_sum = o.seated.passes_sum;
        claims_few = omega arith;
        ended_late = λ j v at pos. let one = sum_one (λ (x : View I). x.ended) s.views j v at in let all = late (omega arith) in omega arith;
        claims_sum = both;
        leaves_sum = ⊎_elim (λ z. omega arith) (λ p. let all = late p in omega arith) (eq-zero-or-pos (sum_by (λ (v : View I). v.ended) s.views));
        fresh = λ k h no. fresh_case k h (quiet (o.phase k) (⊎_elim (λ z. z) (λ b. absurd (no (begins_begun k h b))) (begins_either (o.phase k))));
        begun = λ k h b. begun_case k h (o.phase k) refl (begun_begins k h b);
        waiting = λ k h w. waiting_case k h (o.phase k) refl w;
        no_other = λ k x h at. other_case k x h (o.phase k) refl at;
      }
