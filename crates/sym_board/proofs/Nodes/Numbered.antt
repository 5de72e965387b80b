-- The nodes of the tree and their numbers.
use Rattle.std.proofs.Common.{◌≡◌, ℕ, zero, suc, ◌+◌, ◌-◌, ◌<◌, ◌≤◌, Bool, true, false, cond, ne_eqb, sym, ap, ◌∙◌, subst, subst₂, arith}
use mathlib.Core.Logic.{dite}
use native.Mathlib.Decide.{ℕ_discrete}
use Rattle.sym_board.specs.Tree.{half, leaf, inner, nodes, number, root, place, side}
use Rattle.sym_board.specs.Nodes.{IsNode, whole, left, right, NodesAreNumbered}
use Rattle.sym_board.proofs.Nodes.Laws.{IsInner, at_node, at_inner, root_near, root_lo, root_hi}
use Rattle.sym_board.proofs.Nodes.Spans.{side_left, side_right}

inner_number : (lo hi : ℕ) → 1 < hi - lo → number lo hi ≡ inner (half lo hi)
inner_number lo hi two = ap (λ b. cond b (leaf lo) (inner (half lo hi))) (ne_eqb hi (lo + 1) (λ e. absurd (omega arith)))

module _ (n : ℕ) (some_leaf : 0 < n) (few : n ≤ 64) where
  child_node : (m : ℕ) (b : Bool) → IsInner n m → IsNode n (place n (inner m)).lo (place n (inner m)).hi → IsNode n (place n (side n m b)).lo (place n (side n m b)).hi
  child_node m true t d = let a = t.after in let b = t.before in let two : 1 < (place n (inner m)).hi - (place n (inner m)).lo = omega arith in subst₂ (IsNode n) (sym t.left_lo) (t.cut ∙ sym t.left_hi) (left d two)
  child_node m false t d = let a = t.after in let b = t.before in let two : 1 < (place n (inner m)).hi - (place n (inner m)).lo = omega arith in subst₂ (IsNode n) (t.cut ∙ sym t.right_lo) (sym t.right_hi) (right d two)

  shorter : (m : ℕ) (b : Bool) → IsInner n m → (place n (side n m b)).hi - (place n (side n m b)).lo < (place n (inner m)).hi - (place n (inner m)).lo
  shorter m true t = let a = t.after in let b = t.before in let c = t.left_lo in let d = t.left_hi in omega arith
  shorter m false t = let a = t.after in let b = t.before in let c = t.right_lo in let d = t.right_hi in omega arith

  -- the node of a number, found from its parent
  node_of : (f k : ℕ) → k < nodes n → n - ((place n k).hi - (place n k).lo) < f → IsNode n (place n k).lo (place n k).hi
  node_of zero k h le = absurd (omega arith)
  node_of (suc f) k h le = dite (ℕ_discrete k (root n))
      (λ e. subst₂ (IsNode n) (sym (ap (λ j. (place n j).lo) e ∙ root_lo n some_leaf few)) (sym (ap (λ j. (place n j).hi) e ∙ root_hi n some_leaf few)) whole)
      (λ ne. let u = (at_node n some_leaf few k h).hangs ne in let m : ℕ = (place n k).above in let b : Bool = (place n k).is_left in let pos = u.positive in let less = u.near in
      let t = at_inner n some_leaf few m pos less in let len = shorter m b t in let lo_is = ap (λ j. (place n j).lo) u.is_side in let hi_is = ap (λ j. (place n j).hi) u.is_side in
      let near : inner m < nodes n = omega arith in let top = (at_node n some_leaf few (inner m) near).within in
      subst (λ j. IsNode n (place n j).lo (place n j).hi) u.is_side (child_node m b t (node_of f (inner m) near (omega arith))))

record Numbered (n lo hi : ℕ) : Type 0 where
  near : number lo hi < nodes n
  lo_is : (place n (number lo hi)).lo ≡ lo
  hi_is : (place n (number lo hi)).hi ≡ hi

module _ (n : ℕ) (some_leaf : 0 < n) (few : n ≤ 64) where
  left_number : (lo hi : ℕ) → 1 < hi - lo → Numbered n lo hi → Numbered n lo (half lo hi)
  left_number lo hi two d = let m : ℕ = half lo hi in let is : number lo hi ≡ inner m = inner_number lo hi two in
      let lo_is : (place n (inner m)).lo ≡ lo = ap (λ k. (place n k).lo) (sym is) ∙ d.lo_is in let hi_is : (place n (inner m)).hi ≡ hi = ap (λ k. (place n k).hi) (sym is) ∙ d.hi_is in
      let near = d.near in let pos : 0 < m = omega arith in let less : m < n = omega arith in let t = at_inner n some_leaf few m pos less in
      let here : side n m true ≡ number lo m = side_left n m ∙ ap (λ a. number a m) lo_is in
      record { near = subst (λ k. k < nodes n) here (t.child true).near; lo_is = ap (λ k. (place n k).lo) (sym here) ∙ t.left_lo ∙ lo_is; hi_is = ap (λ k. (place n k).hi) (sym here) ∙ t.left_hi }

  right_number : (lo hi : ℕ) → 1 < hi - lo → Numbered n lo hi → Numbered n (half lo hi) hi
  right_number lo hi two d = let m : ℕ = half lo hi in let is : number lo hi ≡ inner m = inner_number lo hi two in
      let lo_is : (place n (inner m)).lo ≡ lo = ap (λ k. (place n k).lo) (sym is) ∙ d.lo_is in let hi_is : (place n (inner m)).hi ≡ hi = ap (λ k. (place n k).hi) (sym is) ∙ d.hi_is in
      let near = d.near in let pos : 0 < m = omega arith in let less : m < n = omega arith in let t = at_inner n some_leaf few m pos less in
      let here : side n m false ≡ number m hi = side_right n m ∙ ap (λ a. number m a) hi_is in
      record { near = subst (λ k. k < nodes n) here (t.child false).near; lo_is = ap (λ k. (place n k).lo) (sym here) ∙ t.right_lo; hi_is = ap (λ k. (place n k).hi) (sym here) ∙ t.right_hi ∙ hi_is }

  numbered : {lo hi : ℕ} → IsNode n lo hi → Numbered n lo hi
  numbered whole = record { near = root_near n some_leaf few; lo_is = root_lo n some_leaf few; hi_is = root_hi n some_leaf few }
  numbered (left {lo} {hi} d two) = left_number lo hi two (numbered d)
  numbered (right {lo} {hi} d two) = right_number lo hi two (numbered d)

pub nodes_are_numbered : NodesAreNumbered
nodes_are_numbered n some_leaf few = ((λ k h. (node_of n some_leaf few (n + 1) k h (omega arith), (at_node n some_leaf few k h).named)), (λ lo hi d. let t = numbered n some_leaf few d in (t.near, t.lo_is, t.hi_is)))
