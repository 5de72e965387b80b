-- In a lawful state each claimed chunk lies in exactly one hand or one piece at home.
use Rattle.std.proofs.Common.{◌≡◌, ◌≢◌, ℕ, zero, suc, ◌+◌, ◌-◌, ◌<◌, ◌≤◌, ◌⊎◌, Bool, true, false, not, List, slice_index, refl, sym, ap, ◌∙◌, subst, inl, inr, ⊎_elim, arith, Option}
use mathlib.Core.Logic.{dite}
use native.Mathlib.Decide.{dec_lt, ℕ_discrete}
use Rattle.atomic_table.specs.Table.{State}
use Rattle.sym_board.specs.Tree.{leaf, inner, nodes, root, place, side}
use Rattle.sym_board.specs.State.{arrivals, sibling, HasBegun}
use Rattle.sym_board.specs.Lawful.{IsWaiting, IsLawful, Carries, IsCarriedOnce}
use Rattle.sym_board.specs.declared.view.View.{View}
use Rattle.sym_board.proofs.Nodes.Laws.{at_node, at_inner, leaf_lo, leaf_hi}
use Rattle.sym_board.proofs.Steps.Growing.{not_inner, same_inner, out_not_some}
use Rattle.sym_board.proofs.State.Lawful.{node_kind}

module _ (n : ℕ) (words : List ℕ) where
  leaf_begun_or : (k i : ℕ) → k ≡ leaf i → (i < slice_index words 0) ⊎ (slice_index words 0 ≤ i) → HasBegun n words k ⊎ (¬ HasBegun n words k)
  leaf_begun_or k i e (inl lt) = inl (inl (i, e, lt))
  leaf_begun_or k i e (inr le) = inr (λ b. ⊎_elim (λ t. let d : leaf i ≡ leaf t.0 = sym e ∙ t.1 in let lt = t.2 in absurd (omega arith)) (λ t. not_inner i t.0 t.2 (sym e ∙ t.1)) b)

  inner_begun_or : (k m : ℕ) → k ≡ inner m → 0 < m → m < n → HasBegun n words k ⊎ (¬ HasBegun n words k)
  inner_begun_or k m e pos near = dite (ℕ_discrete (arrivals n words (side n m true)) 1)
      (λ a. dite (ℕ_discrete (arrivals n words (side n m false)) 1) (λ b. inl (inr (m, e, pos, near, a, b)))
      (λ nb. inr (λ h. ⊎_elim (λ t. not_inner t.0 m pos (sym t.1 ∙ e)) (λ t. nb (subst (λ l. arrivals n words (side n l false) ≡ 1) (same_inner t.0 m t.2 pos (sym t.1 ∙ e)) t.5)) h)))
      (λ na. inr (λ h. ⊎_elim (λ t. not_inner t.0 m pos (sym t.1 ∙ e)) (λ t. na (subst (λ l. arrivals n words (side n l true) ≡ 1) (same_inner t.0 m t.2 pos (sym t.1 ∙ e)) t.4)) h))

  -- a node has begun or it hasn't
  pub begun_or : (k : ℕ) → k < nodes n → HasBegun n words k ⊎ (¬ HasBegun n words k)
  begun_or k h = ⊎_elim (λ l. leaf_begun_or k l.0 l.1 (dite (dec_lt l.0 (slice_index words 0)) inl (λ nl. inr (let x : ¬ (l.0 < slice_index words 0) = nl in omega arith))))
      (λ l. inner_begun_or k l.0 l.1 l.2 l.3) (node_kind n k h)

-- the node k is d levels above leaf i
Climbs : ℕ → ℕ → ℕ → ℕ → Type 0
Climbs n i zero k = k ≡ leaf i
Climbs n i (suc d) k = (c : ℕ) × Climbs n i d c × (c ≢ root n) × (c < nodes n) × (inner (place n c).above ≡ k)

climbs_same : (n i d k l : ℕ) → Climbs n i d k → Climbs n i d l → k ≡ l
unfolding Climbs
climbs_same n i zero k l a b = a ∙ sym b
climbs_same n i (suc d) k l a b = sym a.4 ∙ ap (λ c. inner (place n c).above) (climbs_same n i d a.0 b.0 a.1 b.1) ∙ b.4

-- the node d levels up, below a node further up
record Passed (n i d : ℕ) : Type 0 where
  node : ℕ
  climbs : Climbs n i d node
  not_root : node ≢ root n
  near : node < nodes n
  above : Climbs n i (suc d) (inner (place n node).above)

passed : (n i d e k : ℕ) → d < e → Climbs n i e k → Passed n i d
unfolding Climbs
passed n i d zero k h a = absurd (omega arith)
passed n i d (suc e) k h a = dite (ℕ_discrete d e)
    (λ q. let here : Climbs n i d a.0 = subst (λ x. Climbs n i x a.0) (sym q) a.1 in record { node = a.0; climbs = here; not_root = a.2; near = a.3; above = (a.0, here, a.2, a.3, refl) })
    (λ ne. passed n i d e a.0 (omega arith) a.1)

module _ (n : ℕ) (some_leaf : 0 < n) (few : n ≤ 64) (i : ℕ) where
  -- a node whose interval has the chunk i is above leaf i
  climbs_to : (f k : ℕ) → k < nodes n → (place n k).hi - (place n k).lo ≤ f → (place n k).lo ≤ i → i < (place n k).hi → (d : ℕ) × Climbs n i d k
  unfolding Climbs
  climbs_to zero k h le from to = absurd (omega arith)
  climbs_to (suc f) k h le from to = ⊎_elim
      (λ l. let lo_is : (place n k).lo ≡ l.0 = ap (λ j. (place n j).lo) l.1 ∙ leaf_lo n some_leaf few l.0 l.2 in let hi_is : (place n k).hi ≡ l.0 + 1 = ap (λ j. (place n j).hi) l.1 ∙ leaf_hi n some_leaf few l.0 l.2 in
      let same : l.0 ≡ i = omega arith in (0, l.1 ∙ ap leaf same))
      (λ l. let m : ℕ = l.0 in let t = at_inner n some_leaf few m l.2 l.3 in
      let lo_is : (place n k).lo ≡ (place n (inner m)).lo = ap (λ j. (place n j).lo) l.1 in let hi_is : (place n k).hi ≡ (place n (inner m)).hi = ap (λ j. (place n j).hi) l.1 in
      let a = t.after in let b = t.before in let c1 = t.left_lo in let c2 = t.left_hi in let d1 = t.right_lo in let d2 = t.right_hi in
      dite (dec_lt i m)
      (λ lt. let s = climbs_to f (side n m true) (t.child true).near (omega arith) (omega arith) (omega arith) in (suc s.0, (side n m true, s.1, (t.child true).not_root, (t.child true).near, ap inner (t.child true).above_is ∙ sym l.1)))
      (λ nl. let ge : ¬ (i < m) = nl in let s = climbs_to f (side n m false) (t.child false).near (omega arith) (omega arith) (omega arith) in (suc s.0, (side n m false, s.1, (t.child false).not_root, (t.child false).near, ap inner (t.child false).above_is ∙ sym l.1))))
      (node_kind n k h)

module _ {P I : Type 0} (stands : I → ℕ → ℕ → P → Type 0) (input : I) (n seats : ℕ) (some_leaf : 0 < n) (few : n ≤ 64) (s : State (Option P) (View I)) (w : IsLawful stands input n seats s) where
  abbrev pub Begun : ℕ → Type 0
  Begun k = HasBegun n s.words k

  pub arrived_begun : (k : ℕ) → k < nodes n → arrivals n s.words k ≡ 1 → Begun k
  arrived_begun k h a = ⊎_elim (λ b. b) (λ nb. let z = (w.fresh k h nb).not_arrived in absurd (omega arith)) (begun_or n s.words k h)

  -- a node has arrived or it hasn't
  pub one_or_none : (k : ℕ) → k < nodes n → (arrivals n s.words k ≡ 0) ⊎ (arrivals n s.words k ≡ 1)
  one_or_none k h = ⊎_elim (λ b. ⊎_elim (λ x. inl x.not_arrived) (λ x. inr x.arrived) (w.begun k h b)) (λ nb. inl (w.fresh k h nb).not_arrived) (begun_or n s.words k h)

  -- a begun node's children have arrived
  pub sides_arrived : (m : ℕ) → 0 < m → Begun (inner m) → (b : Bool) → arrivals n s.words (side n m b) ≡ 1
  sides_arrived m pos (inl t) b = absurd (not_inner t.0 m pos (sym t.1))
  sides_arrived m pos (inr t) true = subst (λ l. arrivals n s.words (side n l true) ≡ 1) (sym (same_inner m t.0 pos t.2 t.1)) t.4
  sides_arrived m pos (inr t) false = subst (λ l. arrivals n s.words (side n l false) ≡ 1) (sym (same_inner m t.0 pos t.2 t.1)) t.5

  parent_arrived : (k : ℕ) → k < nodes n → k ≢ root n → Begun (inner (place n k).above) → (arrivals n s.words k ≡ 1) × (arrivals n s.words (sibling n k) ≡ 1)
  parent_arrived k h ne b = let u = (at_node n some_leaf few k h).hangs ne in let all = sides_arrived (place n k).above u.positive b in
      (subst (λ j. arrivals n s.words j ≡ 1) u.is_side (all (place n k).is_left), all (not (place n k).is_left))

  -- of two nodes above leaf i, the lower one has begun where the higher one has
  begun_below : (i e d k c : ℕ) → d ≤ e → Climbs n i e k → Climbs n i d c → Begun k → Begun c
  unfolding Climbs
  begun_below i zero d k c le a b t = subst Begun (climbs_same n i 0 k c a (subst (λ x. Climbs n i x c) (let z : d ≡ 0 = omega arith in z) b)) t
  begun_below i (suc e) d k c le a b t = dite (ℕ_discrete d (suc e))
      (λ q. subst Begun (climbs_same n i (suc e) k c a (subst (λ x. Climbs n i x c) q b)) t)
      (λ ne. begun_below i e d a.0 c (omega arith) a.1 b (arrived_begun a.0 a.3 (parent_arrived a.0 a.3 a.2 (subst Begun (sym a.4) t)).0))

  -- a node that carries has begun, and the node above it hasn't
  carrying : (k i : ℕ) → Carries n s k i → Begun k × (k ≢ root n → Begun (inner (place n k).above) → ⊥)
  carrying k i c = ⊎_elim
      (λ t. ⊎_elim
      (λ b. (b, λ ne up. ⊎_elim (λ x. let one = (parent_arrived k c.near ne up).0 in let z = x.not_arrived in absurd (omega arith)) (λ x. x.no_hand t.0 t.1) (w.begun k c.near b)))
      (λ nb. absurd ((w.fresh k c.near nb).no_hand t.0 t.1)) (begun_or n s.words k c.near))
      (λ t. let waits = w.no_other k t.0 c.near t.1 in (arrived_begun k c.near waits.arrived, λ ne up. let one = (parent_arrived k c.near ne up).1 in let z = waits.alone ne in absurd (omega arith)))
      c.there

  lower_never : (i d e k l : ℕ) → d < e → Climbs n i d k → Climbs n i e l → Carries n s k i → Carries n s l i → ⊥
  lower_never i d e k l lt a b ck cl = let p = passed n i d e l lt b in let same : p.node ≡ k = climbs_same n i d p.node k p.climbs a in
      (carrying k i ck).1 (λ r. p.not_root (same ∙ r)) (subst (λ x. Begun (inner (place n x).above)) same (begun_below i e (suc d) l (inner (place n p.node).above) (omega arith) b p.above (carrying l i cl).0))

  one_carrier : (i k l : ℕ) → Carries n s k i → Carries n s l i → k ≡ l
  one_carrier i k l ck cl = let a = climbs_to n some_leaf few i ((place n k).hi - (place n k).lo) k ck.near (omega arith) ck.from ck.to in
      let b = climbs_to n some_leaf few i ((place n l).hi - (place n l).lo) l cl.near (omega arith) cl.from cl.to in
      dite (dec_lt a.0 b.0) (λ lt. absurd (lower_never i a.0 b.0 k l lt a.1 b.1 ck cl))
      (λ nl. dite (dec_lt b.0 a.0) (λ gt. absurd (lower_never i b.0 a.0 l k gt b.1 a.1 cl ck))
      (λ ng. let x : ¬ (a.0 < b.0) = nl in let y : ¬ (b.0 < a.0) = ng in let same : b.0 ≡ a.0 = omega arith in climbs_same n i a.0 k l a.1 (subst (λ d. Climbs n i d l) same b.1)))

  -- a node's interval lies within its parent's, which is longer
  within_parent : (m : ℕ) (b : Bool) → 0 < m → m < n → ((place n (inner m)).lo ≤ (place n (side n m b)).lo) × ((place n (side n m b)).hi ≤ (place n (inner m)).hi) × ((place n (side n m b)).hi - (place n (side n m b)).lo < (place n (inner m)).hi - (place n (inner m)).lo)
  within_parent m true pos less = let t = at_inner n some_leaf few m pos less in let a = t.after in let b = t.before in let c1 = t.left_lo in let c2 = t.left_hi in (omega arith, omega arith, omega arith)
  within_parent m false pos less = let t = at_inner n some_leaf few m pos less in let a = t.after in let b = t.before in let c1 = t.right_lo in let c2 = t.right_hi in (omega arith, omega arith, omega arith)

  parts : (m : ℕ) (b : Bool) → arrivals n s.words (side n m b) ≡ 1 → arrivals n s.words (side n m (not b)) ≡ 1 → (arrivals n s.words (side n m true) ≡ 1) × (arrivals n s.words (side n m false) ≡ 1)
  parts m true p q = (p, q)
  parts m false p q = (q, p)

  carries_piece : (k i : ℕ) → k < nodes n → (place n k).lo ≤ i → i < (place n k).hi → IsWaiting n s k → (l : ℕ) × Carries n s l i
  carries_piece k i h from to waits = let t = w.waiting k h waits in (k, record { near = h; from = from; to = to; there = inr (t.0, t.1) })

  -- the way up from a begun node with the chunk i to the one that carries it
  next_up : (i f k : ℕ) → ((j : ℕ) → j < nodes n → n - ((place n j).hi - (place n j).lo) < f → (place n j).lo ≤ i → i < (place n j).hi → HasBegun n s.words j → (l : ℕ) × Carries n s l i)
      → k < nodes n → n - ((place n k).hi - (place n k).lo) < f + 1 → (place n k).lo ≤ i → i < (place n k).hi → HasBegun n s.words k → (l : ℕ) × Carries n s l i
  next_up i f k more h le from to b = ⊎_elim (λ x. (k, record { near = h; from = from; to = to; there = inl (x.holder, x.held) }))
      (λ x. dite (ℕ_discrete k (root n))
      (λ e. carries_piece k i h from to (record { arrived = x.arrived; alone = λ ne. absurd (ne e) }))
      (λ ne. let u = (at_node n some_leaf few k h).hangs ne in let m : ℕ = (place n k).above in let c : Bool = (place n k).is_left in
      let sib_near = ((at_inner n some_leaf few m u.positive u.near).child (not c)).near in
      ⊎_elim (λ z. carries_piece k i h from to (record { arrived = x.arrived; alone = λ _. z }))
      (λ one. let p = within_parent m c u.positive u.near in let lo_is = ap (λ j. (place n j).lo) u.is_side in let hi_is = ap (λ j. (place n j).hi) u.is_side in
      let p0 = p.0 in let p1 = p.1 in let p2 = p.2 in let top = (at_node n some_leaf few (inner m) (let pos = u.positive in let less = u.near in omega arith)).within in
      let both = parts m c (subst (λ j. arrivals n s.words j ≡ 1) (sym u.is_side) x.arrived) one in
      more (inner m) (let pos = u.positive in let less = u.near in omega arith) (omega arith) (omega arith) (omega arith) (inr (m, refl, u.positive, u.near, both.0, both.1)))
      (one_or_none (side n m (not c)) sib_near)))
      (w.begun k h b)

  carrier : (i f k : ℕ) → k < nodes n → n - ((place n k).hi - (place n k).lo) < f → (place n k).lo ≤ i → i < (place n k).hi → HasBegun n s.words k → (l : ℕ) × Carries n s l i
  carrier i zero k h le from to b = absurd (omega arith)
  carrier i (suc f) k h le from to b = next_up i f k (carrier i f) h (omega arith) from to b

  -- each claimed chunk lies in exactly one hand or one piece at home
  pub carried : (i : ℕ) → i < n → i < slice_index s.words 0 → IsCarriedOnce n s i
  carried i h lt = let lo_is = leaf_lo n some_leaf few i h in let hi_is = leaf_hi n some_leaf few i h in
      let c = carrier i n (leaf i) (omega arith) (omega arith) (omega arith) (omega arith) (inl (i, refl, lt)) in
      let b = (carrying c.0 i c.1).0 in let near = c.1.near in
      record {
        node = c.0;
        carries = c.1;
        one_node = λ k ck. one_carrier i k c.0 ck c.1;
        one_hand = λ j l p q. ⊎_elim (λ x. x.once j p ∙ sym (x.once l q)) (λ x. absurd (x.no_hand j p)) (w.begun c.0 near b);
        not_both = λ j x p q. ⊎_elim (λ y. out_not_some x (sym y.out ∙ q)) (λ y. y.no_hand j p) (w.begun c.0 near b);
      }
