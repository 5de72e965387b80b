-- The way down the tree, one level at a time.
use Rattle.std.proofs.Common.{◌≡◌, ◌≢◌, ℕ, zero, suc, ◌+◌, ◌-◌, ◌<◌, ◌≤◌, Bool, true, false, ltb, eq-eqb, ne_eqb, lt-ltb, le-ltb, refl, sym, ap, ◌∙◌, arith}
use Rattle.sym_board.specs.Tree.{half, number, Place, top, left_of, right_of, seek, place, spot}

pub seek_found : (f : ℕ) (p : Place) (k : ℕ) → number p.lo p.hi ≡ k → seek f p k ≡ p
unfolding seek
seek_found zero p k e = refl
seek_found (suc f) p k e = ap (λ b. elim b as (λ (_ : Bool). Place) [ true ↦ p | false ↦ elim (ltb k (number p.lo p.hi)) [ true ↦ seek f (left_of p) k | false ↦ seek f (right_of p) k ] ]) (eq-eqb (number p.lo p.hi) k e)

seek_past : (f : ℕ) (p : Place) (k : ℕ) (b : Bool) → number p.lo p.hi ≢ k → ltb k (number p.lo p.hi) ≡ b → seek (suc f) p k ≡ elim b as (λ (_ : Bool). Place) [ true ↦ seek f (left_of p) k | false ↦ seek f (right_of p) k ]
unfolding seek
seek_past f p k b ne e = ap (λ c. elim c as (λ (_ : Bool). Place) [ true ↦ p | false ↦ elim (ltb k (number p.lo p.hi)) [ true ↦ seek f (left_of p) k | false ↦ seek f (right_of p) k ] ]) (ne_eqb (number p.lo p.hi) k ne)
    ∙ ap (λ c. elim c as (λ (_ : Bool). Place) [ true ↦ seek f (left_of p) k | false ↦ seek f (right_of p) k ]) e

pub seek_left : (f : ℕ) (p : Place) (k : ℕ) → number p.lo p.hi ≢ k → k < number p.lo p.hi → seek (suc f) p k ≡ seek f (left_of p) k
seek_left f p k ne lt = seek_past f p k true ne (lt-ltb k (number p.lo p.hi) lt)

pub seek_right : (f : ℕ) (p : Place) (k : ℕ) → number p.lo p.hi ≢ k → number p.lo p.hi ≤ k → seek (suc f) p k ≡ seek f (right_of p) k
seek_right f p k ne le = seek_past f p k false ne (le-ltb k (number p.lo p.hi) le)

pub seek_end : (p : Place) (k : ℕ) → seek 0 p k ≡ p
unfolding seek
seek_end p k = refl

pub seek_top : (n k : ℕ) → seek 8 (top n) k ≡ place n k
unfolding place
seek_top n k = refl

-- one level further down, on the left or the right
pub level_left : (l n k lo hi above : ℕ) (b : Bool) → l < 8 → number lo hi ≢ k → k < number lo hi → seek (8 - l) (spot lo hi above b) k ≡ place n k → seek (8 - (l + 1)) (spot lo (half lo hi) (half lo hi) true) k ≡ place n k
level_left l n k lo hi above b few ne lt e = let more : 8 - l ≡ suc (8 - (l + 1)) = omega arith in sym (seek_left (8 - (l + 1)) (spot lo hi above b) k ne lt) ∙ ap (λ f. seek f (spot lo hi above b) k) (sym more) ∙ e

pub level_right : (l n k lo hi above : ℕ) (b : Bool) → l < 8 → number lo hi ≢ k → number lo hi ≤ k → seek (8 - l) (spot lo hi above b) k ≡ place n k → seek (8 - (l + 1)) (spot (half lo hi) hi (half lo hi) false) k ≡ place n k
level_right l n k lo hi above b few ne le e = let more : 8 - l ≡ suc (8 - (l + 1)) = omega arith in sym (seek_right (8 - (l + 1)) (spot lo hi above b) k ne le) ∙ ap (λ f. seek f (spot lo hi above b) k) (sym more) ∙ e

pub level_last : (l n k lo hi above : ℕ) (b : Bool) → 8 ≤ l → seek (8 - l) (spot lo hi above b) k ≡ place n k → spot lo hi above b ≡ place n k
level_last l n k lo hi above b le e = let none : 8 - l ≡ 0 = omega arith in sym (seek_end (spot lo hi above b) k) ∙ ap (λ f. seek f (spot lo hi above b) k) (sym none) ∙ e
