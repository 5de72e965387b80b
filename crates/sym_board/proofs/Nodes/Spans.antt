-- The interval of the node in a hand.
use Rattle.std.proofs.Common.{◌≡◌, ◌≢◌, ℕ, ◌+◌, ◌-◌, ◌%◌, ◌<◌, ◌≤◌, ◌⊎◌, inl, inr, refl, sym, ap, ap₂, ◌∙◌, subst, arith, Option, Some, None, Bool, true, false, not, ne_eqb, List, [], ◌∷◌}
use Rattle.std.proofs.lemmas.Option.{none-some, same_Some}
use Rattle.sym_board.specs.Tree.{half, leaf, inner, number, nodes, root, Place, spot, place, side}
use Rattle.sym_board.specs.Steps.{bit}
use Rattle.sym_board.specs.Plays.{cut, is_leaf, children, hand_slots, slots_of}
use Rattle.sym_board.specs.Arrived.{Meets}
use Rattle.atomic_table.specs.Table.{rest}
use Rattle.sym_board.specs.Passes.{interval, span_of}
use Rattle.sym_board.specs.declared.tree.Interval.{Interval}
use Rattle.sym_board.proofs.Nodes.Laws.{IsInner, at_node, at_inner, root_lo, root_hi, leaf_lo, leaf_hi}

pub no_span : (n : ℕ) (h : Option ℕ) → span_of n h ≡ None → h ≡ None
no_span n None e = refl
no_span n (Some k) e = absurd (none-some (interval (place n k).lo (place n k).hi) (sym e))

-- the node of a hand that isn't empty
pub some_span : (n : ℕ) (h : Option ℕ) (i : Interval) → span_of n h ≡ Some i → (k : ℕ) × (h ≡ Some k) × ((place n k).lo ≡ i.lo) × ((place n k).hi ≡ i.hi)
some_span n None i e = absurd (none-some i e)
some_span n (Some k) i e = let same : interval (place n k).lo (place n k).hi ≡ i = same_Some (interval (place n k).lo (place n k).hi) i e in (k, refl, ap (λ (x : Interval). x.lo) same, ap (λ (x : Interval). x.hi) same)

module _ (n : ℕ) (some_leaf : 0 < n) (few : n ≤ 64) where
  pub leaf_span : (i : ℕ) → i < n → span_of n (Some (leaf i)) ≡ Some (interval i (i + 1))
  leaf_span i h = ap₂ (λ (a b : ℕ). Some (interval a b)) (leaf_lo n some_leaf few i h) (leaf_hi n some_leaf few i h)

  -- the root is the one node from 0 to n
  pub is_root : (k : ℕ) → k < nodes n → (place n k).lo ≡ 0 → (place n k).hi ≡ n → k ≡ root n
  is_root k h a b = sym (at_node n some_leaf few k h).named ∙ ap₂ number a b

  pub root_span : (k : ℕ) → k ≡ root n → span_of n (Some k) ≡ Some (interval 0 n)
  root_span k e = ap (λ j. span_of n (Some j)) e ∙ ap₂ (λ (a b : ℕ). Some (interval a b)) (root_lo n some_leaf few) (root_hi n some_leaf few)

  -- where a node that isn't the root hangs
  pub hung : (k lo hi above : ℕ) (b : Bool) → k < nodes n → k ≢ root n → spot lo hi above b ≡ place n k → (0 < above) × (above < n) × (side n above b ≡ k)
  hung k lo hi above b near ne at = let u = (at_node n some_leaf few k near).hangs ne in let e : (place n k).above ≡ above = ap (λ (p : Place). p.above) (sym at) in
      (subst (λ m. 0 < m) e u.positive, subst (λ m. m < n) e u.near, ap (λ (p : Place). side n p.above p.is_left) at ∙ u.is_side)

pub side_left : (n m : ℕ) → side n m true ≡ number (place n (inner m)).lo m
unfolding side
side_left n m = refl

pub side_right : (n m : ℕ) → side n m false ≡ number m (place n (inner m)).hi
unfolding side
side_right n m = refl

inner_odd : (m : ℕ) → 0 < m → is_leaf (inner m) ≡ false
inner_odd m h = ne_eqb (inner m % 2) 0 (λ e. absurd (omega arith))

inner_cut : (m : ℕ) → 0 < m → cut (inner m) ≡ m
inner_cut m h = omega arith

-- the slots of an inner node and its children, all empty
pub inner_slots : {P : Type 0} (n m : ℕ) (o : Option P) → 0 < m → hand_slots n (inner m) o ≡ (inner m, o) ∷ (side n m true, None) ∷ (side n m false, None) ∷ []
inner_slots {P} n m o h = ap (λ b. (inner m, o) ∷ children {P = P} n (inner m) b) (inner_odd m h) ∙ ap (λ l. (inner m, o) ∷ (side n l true, None) ∷ (side n l false, None) ∷ []) (inner_cut m h)

-- the slots of a hand, with a piece put into the first one
pub filled : {P : Type 0} (n k : ℕ) (h : Option ℕ) (before after : List (ℕ × Option P)) (x : P) → h ≡ Some k → before ≡ slots_of n h → after ≡ (k, Some x) ∷ rest before → after ≡ hand_slots n k (Some x)
filled n k h before after x e d f = f ∙ ap (λ l. (k, Some x) ∷ rest l) (d ∙ ap (slots_of n) e)

-- what stands for the interval of the hand stands for that of the node's place
pub stands_spot : (F : ℕ → ℕ → Type 0) (leaves n k lo hi above : ℕ) (b : Bool) (h : Option ℕ) (i : Interval) → leaves ≡ n → span_of leaves h ≡ Some i → h ≡ Some k → spot lo hi above b ≡ place n k → F i.lo i.hi → F lo hi
stands_spot F leaves n k lo hi above b h i same span e at st =
    let s : Some (interval (place n k).lo (place n k).hi) ≡ Some i = ap (λ l. span_of l (Some k)) (sym same) ∙ ap (span_of leaves) (sym e) ∙ span in
    let t : interval (place n k).lo (place n k).hi ≡ i = same_Some (interval (place n k).lo (place n k).hi) i s in
    subst (λ (p : Place). F p.lo p.hi) (sym at) (subst (λ (j : Interval). F j.lo j.hi) (sym t) st)

module _ (n : ℕ) (some_leaf : 0 < n) (few : n ≤ 64) (k lo hi above : ℕ) (b : Bool) (near : k < nodes n) (at : spot lo hi above b ≡ place n k) where
  pub spot_long : (lo < hi) × (hi ≤ n)
  spot_long = let t = at_node n some_leaf few k near in (subst (λ (p : Place). p.lo < p.hi) (sym at) t.long, subst (λ (p : Place). p.hi ≤ n) (sym at) t.within)

  pub spot_root : hi - lo ≡ n → k ≡ root n
  spot_root e = let l = spot_long in is_root n some_leaf few k near (sym (ap (λ (p : Place). p.lo) at) ∙ omega arith) (sym (ap (λ (p : Place). p.hi) at) ∙ omega arith)

  pub spot_other : hi - lo ≢ n → k ≢ root n
  spot_other ne e = let x : lo ≡ 0 = ap (λ (p : Place). p.lo) at ∙ ap (λ j. (place n j).lo) e ∙ root_lo n some_leaf few in let y : hi ≡ n = ap (λ (p : Place). p.hi) at ∙ ap (λ j. (place n j).hi) e ∙ root_hi n some_leaf few in ne (omega arith)

  pub not_whole : k ≢ root n → span_of n (Some k) ≢ Some (interval 0 n)
  not_whole ne e = let t = same_Some (interval (place n k).lo (place n k).hi) (interval 0 n) e in ne (is_root n some_leaf few k near (ap (λ (i : Interval). i.lo) t) (ap (λ (i : Interval). i.hi) t))

child_span : (n m r : ℕ) (b : Bool) → IsInner n m → r ≡ bit (not b) → ((span_of n (Some (side n m b)) ≡ Some (interval (place n (inner m)).lo m)) × (r ≡ bit false)) ⊎ ((span_of n (Some (side n m b)) ≡ Some (interval m (place n (inner m)).hi)) × (r ≡ bit true))
child_span n m r true t e = inl (ap₂ (λ (a c : ℕ). Some (interval a c)) t.left_lo t.left_hi, e)
child_span n m r false t e = inr (ap₂ (λ (a c : ℕ). Some (interval a c)) t.right_lo t.right_hi, e)

-- the node at m and its children as intervals
pub met_spans : {P I : Type 0} (stands : I → ℕ → ℕ → P → Type 0) (input : I) (n m r : ℕ) (b : Bool) (x y : P) → 0 < n → n ≤ 64 → 0 < m → m < n → r ≡ bit (not b) → stands input (place n (inner m)).lo m x → stands input m (place n (inner m)).hi y
    → Meets stands input n r (span_of n (Some (side n m b))) (span_of n (Some (inner m))) x y
met_spans stands input n m r b x y some_leaf few pos less e p q = let t = at_inner n some_leaf few m pos less in let u = at_node n some_leaf few (inner m) (omega arith) in let lo : ℕ = (place n (inner m)).lo in let hi : ℕ = (place n (inner m)).hi in
    let cut_is : half lo hi ≡ m = t.cut in let before = t.before in let after = t.after in
    record {
      lo = lo;
      hi = hi;
      two_chunks = omega arith;
      within = u.within;
      parent = refl;
      child = subst (λ c. ((span_of n (Some (side n m b)) ≡ Some (interval lo c)) × (r ≡ bit false)) ⊎ ((span_of n (Some (side n m b)) ≡ Some (interval c hi)) × (r ≡ bit true))) (sym cut_is) (child_span n m r b t e);
      left = subst (λ c. stands input lo c x) (sym cut_is) p;
      right = subst (λ c. stands input c hi y) (sym cut_is) q;
    }
