-- The way of a hand up the tree.
use Rattle.std.proofs.Common.{◌≡◌, ◌≢◌, ℕ, ◌<◌, ◌≤◌, ◌⊎◌, inl, inr, ⊎_elim, sym, ap, ◌∙◌, subst, arith, Option, Some}
use Rattle.std.proofs.lemmas.Option.{same_Some}
use Rattle.sym_board.specs.Tree.{half}
use Rattle.sym_board.specs.Passes.{interval, span_len}
use Rattle.sym_board.specs.Arrived.{Meets, IsAbove}
use Rattle.sym_board.specs.declared.tree.Interval.{Interval}

module _ {P I : Type 0} (stands : I → ℕ → ℕ → P → Type 0) (input : I) (n found : ℕ) (before after : Option Interval) (x y : P) (t : Meets stands input n found before after x y) where
  pub meets_above : IsAbove before after
  meets_above = let two = t.two_chunks in ⊎_elim
      (λ e. record { inner_is = interval t.lo (half t.lo t.hi); outer_is = interval t.lo t.hi; was = e.0; is = t.parent; lo = omega arith; hi = omega arith; longer = omega arith })
      (λ e. record { inner_is = interval (half t.lo t.hi) t.hi; outer_is = interval t.lo t.hi; was = e.0; is = t.parent; lo = omega arith; hi = omega arith; longer = omega arith })
      t.child

  -- the new hand is longer, and no longer than the board
  pub meets_longer : (span_len before < span_len after) × (span_len after ≤ n)
  meets_longer = let a = meets_above in let l = a.longer in let w = t.within in let e = ap span_len a.was in let f = ap span_len a.is in let h = ap span_len t.parent in (omega arith, omega arith)

pub above_trans : (a b c : Option Interval) → IsAbove a b → IsAbove b c → IsAbove a c
above_trans a b c p q = let e : p.outer_is ≡ q.inner_is = same_Some p.outer_is q.inner_is (sym p.is ∙ q.was) in
    let lo_is = ap (λ (i : Interval). i.lo) e in let hi_is = ap (λ (i : Interval). i.hi) e in
    let p1 = p.lo in let p2 = p.hi in let p3 = p.longer in let q1 = q.lo in let q2 = q.hi in let q3 = q.longer in
    record { inner_is = p.inner_is; outer_is = q.outer_is; was = p.was; is = q.is; lo = omega arith; hi = omega arith; longer = omega arith }

-- how far a hand came from where it began: nowhere, or further up from a node that wasn't the root
abbrev pub Way : ℕ → Option Interval → Option Interval → Type 0
Way n start now = (now ≡ start) ⊎ (IsAbove start now × (start ≢ Some (interval 0 n)))

pub further : (n : ℕ) (start now next : Option Interval) → Way n start now → now ≢ Some (interval 0 n) → IsAbove now next → IsAbove start next × (start ≢ Some (interval 0 n))
further n start now next (inl e) ne a = (subst (λ o. IsAbove o next) e a, λ d. ne (e ∙ d))
further n start now next (inr w) ne a = (above_trans start now next w.0 a, w.1)

-- where the way began at the root, it is there still
pub still_root : (n : ℕ) (start now : Option Interval) → Way n start now → start ≡ Some (interval 0 n) → now ≡ Some (interval 0 n)
still_root n start now (inl e) d = e ∙ d
still_root n start now (inr w) d = absurd (w.1 d)
