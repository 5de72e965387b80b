-- The laws of the tree, each computed for every number of leaves up to 64.
use Rattle.std.proofs.Common.{◌≡◌, ℕ, zero, suc, ◌+◌, ◌-◌, ◌<◌, ◌≤◌, ◌≢◌, ◌⊎◌, Bool, true, false, eqb, ltb, eqb-true, ltb-true, eq-eqb, ne_eqb, true≢false, refl, sym, ap, ◌∙◌, inl, inr, arith}
use Rattle.std.proofs.lemmas.Bool.Decides.{eqb_tells}
use Rattle.sym_board.specs.Tree.{half, leaf, inner, nodes, number, root, seek, place, side}

-- a fact on numbers that can be computed
data Test : Type 0 where
  same : ℕ → ℕ → Test
  less : ℕ → ℕ → Test
  differs : ℕ → ℕ → Test
  equal : Bool → Bool → Test
  both : Test → Test → Test
  unless : ℕ → ℕ → Test → Test
  each : ℕ → (ℕ → Test) → Test

and : Bool → Bool → Bool
and true b = b
and false b = false

or : Bool → Bool → Bool
or true b = true
or false b = b

agree : Bool → Bool → Bool
agree true b = b
agree false true = false
agree false false = true

below : ℕ → (ℕ → Bool) → Bool
unfolding and
below zero f = true
below (suc n) f = and (f n) (below n f)

tests : Test → Bool
tests (same a b) = eqb a b
tests (less a b) = ltb a b
tests (differs a b) = agree (eqb a b) false
tests (equal b c) = agree b c
tests (both s t) = and (tests s) (tests t)
tests (unless a b t) = or (eqb a b) (tests t)
tests (each n f) = below n (λ k. tests (f k))

abbrev means : Test → Type 0
means (same a b) = a ≡ b
means (less a b) = a < b
means (differs a b) = a ≢ b
means (equal b c) = b ≡ c
means (both s t) = means s × means t
means (unless a b t) = a ≢ b → means t
means (each n f) = (k : ℕ) → k < n → means (f k)

and-parts : (a b : Bool) → and a b ≡ true → (a ≡ true) × (b ≡ true)
unfolding and
and-parts true b e = (refl, e)
and-parts false b e = absurd (true≢false (sym e))

or-else : (a b : Bool) → or a b ≡ true → a ≡ false → b ≡ true
unfolding or
or-else true b e n = absurd (true≢false n)
or-else false b e n = e

agreed : (b c : Bool) → agree b c ≡ true → b ≡ c
unfolding agree
agreed true true e = refl
agreed true false e = absurd (true≢false (sym e))
agreed false true e = absurd (true≢false (sym e))
agreed false false e = refl

below-next : (n : ℕ) (f : ℕ → Bool) (k : ℕ) → ((eqb k n ≡ true) × (k ≡ n)) ⊎ ((eqb k n ≡ false) × (k ≢ n)) → f n ≡ true → (k < n → f k ≡ true) → k < suc n → f k ≡ true
below-next n f k (inl t) here rest h = ap f t.1 ∙ here
below-next n f k (inr t) here rest h = let ne : k ≢ n = t.1 in rest (omega arith)

below-each : (n : ℕ) (f : ℕ → Bool) → below n f ≡ true → (k : ℕ) → k < n → f k ≡ true
unfolding below
below-each zero f e k h = absurd (omega arith)
below-each (suc n) f e k h = let p = and-parts (f n) (below n f) e in below-next n f k (eqb_tells k n) p.0 (below-each n f p.1 k) h

sound : (t : Test) → tests t ≡ true → means t
unfolding tests
sound (same a b) e = eqb-true a b e
sound (less a b) e = ltb-true a b e
sound (differs a b) e = λ p. true≢false (sym (eq-eqb a b p) ∙ agreed (eqb a b) false e)
sound (equal b c) e = agreed b c e
sound (both s t) e = let p = and-parts (tests s) (tests t) e in (sound s p.0, sound t p.1)
sound (unless a b t) e = λ ne. sound t (or-else (eqb a b) (tests t) e (ne_eqb a b ne))
sound (each n f) e = λ k h. sound (f k) (below-each n (λ j. tests (f j)) e k h)

-- of the node k of the tree over n leaves
abbrev node_test : ℕ → ℕ → Test
node_test n k = let p = place n k in
    both (both (same (number p.lo p.hi) k) (both (less p.lo p.hi) (less p.hi (suc n))))
    (unless k (root n) (both (both (less 0 p.above) (less p.above n)) (same (side n p.above p.is_left) k)))

-- of a child of the inner node at m
abbrev child_test : ℕ → ℕ → Bool → Test
child_test n m b = let k = side n m b in let p = place n k in
    both (both (less k (nodes n)) (differs k (root n)))
    (both (same p.above m) (equal p.is_left b))

-- of the inner node at m
abbrev inner_test : ℕ → ℕ → Test
inner_test n m = let p = place n (inner m) in let l = place n (side n m true) in let r = place n (side n m false) in
    both (both (both (same (half p.lo p.hi) m) (both (less p.lo m) (less m p.hi))) (both (both (same l.lo p.lo) (same l.hi m)) (both (same r.lo m) (same r.hi p.hi))))
    (both (child_test n m true) (child_test n m false))

abbrev leaf_test : ℕ → ℕ → Test
leaf_test n i = let p = place n (leaf i) in both (same p.lo i) (same p.hi (suc i))

abbrev root_test : ℕ → Test
root_test n = let p = place n (root n) in both (less (root n) (nodes n)) (both (same p.lo 0) (same p.hi n))

abbrev tree_test : ℕ → Test
tree_test n = both (unless n 0 (root_test n)) (both (each (nodes n) (node_test n)) (both (each n (leaf_test n)) (each (n - 1) (λ j. inner_test n (suc j)))))

all : tests (each 65 tree_test) ≡ true
unfolding seek place side tests below and or agree
all = refl

-- the node k hangs on the inner node at `above`, on its side
pub record Hangs (n k : ℕ) : Type 0 where
  pub positive : 0 < (place n k).above
  pub near : (place n k).above < n
  pub is_side : side n (place n k).above (place n k).is_left ≡ k

pub record IsNode (n k : ℕ) : Type 0 where
  pub named : number (place n k).lo (place n k).hi ≡ k
  pub long : (place n k).lo < (place n k).hi
  pub within : (place n k).hi ≤ n
  pub hangs : k ≢ root n → Hangs n k

-- of the child on one side of the inner node at m
pub record IsChild (n m : ℕ) (b : Bool) : Type 0 where
  pub near : side n m b < nodes n
  pub not_root : side n m b ≢ root n
  pub above_is : (place n (side n m b)).above ≡ m
  pub side_is : (place n (side n m b)).is_left ≡ b

pub record IsInner (n m : ℕ) : Type 0 where
  pub cut : half (place n (inner m)).lo (place n (inner m)).hi ≡ m
  pub after : (place n (inner m)).lo < m
  pub before : m < (place n (inner m)).hi
  pub left_lo : (place n (side n m true)).lo ≡ (place n (inner m)).lo
  pub left_hi : (place n (side n m true)).hi ≡ m
  pub right_lo : (place n (side n m false)).lo ≡ m
  pub right_hi : (place n (side n m false)).hi ≡ (place n (inner m)).hi
  pub child : (b : Bool) → IsChild n m b

module _ (n : ℕ) (some_leaf : 0 < n) (few : n ≤ 64) where
  tree : means (tree_test n)
  tree = sound (each 65 tree_test) all n (omega arith)

  pub at_node : (k : ℕ) → k < nodes n → IsNode n k
  at_node k h = let t = tree.1.0 k h in record { named = t.0.0; long = t.0.1.0; within = omega (arith, t.0.1.1); hangs = λ ne. let u = t.1 ne in record { positive = u.0.0; near = u.0.1; is_side = u.1 } }

  pub at_inner : (m : ℕ) → 0 < m → m < n → IsInner n m
  at_inner zero pos h = absurd (omega arith)
  at_inner (suc j) pos h = let t = tree.1.1.1 j (omega arith) in let c : (b : Bool) → IsChild n (suc j) b = elim [ true ↦ record { near = t.1.0.0.0; not_root = t.1.0.0.1; above_is = t.1.0.1.0; side_is = t.1.0.1.1 } | false ↦ record { near = t.1.1.0.0; not_root = t.1.1.0.1; above_is = t.1.1.1.0; side_is = t.1.1.1.1 } ] in
      record { cut = t.0.0.0; after = t.0.0.1.0; before = t.0.0.1.1; left_lo = t.0.1.0.0; left_hi = t.0.1.0.1; right_lo = t.0.1.1.0; right_hi = t.0.1.1.1; child = c }

  pub leaf_lo : (i : ℕ) → i < n → (place n (leaf i)).lo ≡ i
  leaf_lo i h = (tree.1.1.0 i h).0

  pub leaf_hi : (i : ℕ) → i < n → (place n (leaf i)).hi ≡ i + 1
  leaf_hi i h = (tree.1.1.0 i h).1 ∙ omega arith

  root_law : means (root_test n)
  root_law = tree.0 (λ e. omega arith)

  pub root_near : root n < nodes n
  root_near = root_law.0

  pub root_lo : (place n (root n)).lo ≡ 0
  root_lo = root_law.1.0

  pub root_hi : (place n (root n)).hi ≡ n
  root_hi = root_law.1.1
