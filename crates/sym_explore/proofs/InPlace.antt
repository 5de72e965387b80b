-- Lists whose items are changed where they stand, in order, while something else changes with them.
use Rattle.std.proofs.Common.{◌≡◌, ℕ, zero, suc, ◌+◌, ◌<◌, ◌≤◌, List, [], ◌∷◌, length, get_or, set, refl, ap, subst, arith, add-one}

-- So many of the first items have changed as R says.
abbrev pub Threaded : {E A : Type 0} → (E → A → E → A → Type 0) → List E → A → List E → A → ℕ → Type 0
Threaded R xs a ys b zero = (ys ≡ xs) × (b ≡ a)
Threaded R [] a ys b (suc i) = (ys ≡ []) × (b ≡ a)
Threaded R (x ∷ xs) a [] b (suc i) = ⊥
Threaded {A = A} R (x ∷ xs) a (y ∷ ys) b (suc i) = (m : A) × R x a y m × Threaded R xs m ys b i

-- All items have.
abbrev pub AllThreaded : {E A : Type 0} → (E → A → E → A → Type 0) → List E → A → List E → A → Type 0
AllThreaded R [] a [] b = b ≡ a
AllThreaded R [] a (y ∷ ys) b = ⊥
AllThreaded R (x ∷ xs) a [] b = ⊥
AllThreaded {A = A} R (x ∷ xs) a (y ∷ ys) b = (m : A) × R x a y m × AllThreaded R xs m ys b

pub threaded_length : {E A : Type 0} (R : E → A → E → A → Type 0) (xs : List E) (a : A) (ys : List E) (b : A) (i : ℕ) → Threaded R xs a ys b i → length ys ≡ length xs
threaded_length R xs a ys b zero h = ap length h.0
threaded_length R [] a ys b (suc i) h = ap length h.0
threaded_length R (x ∷ xs) a [] b (suc i) h = absurd h
threaded_length R (x ∷ xs) a (y ∷ ys) b (suc i) h = ap suc (threaded_length R xs h.0 ys b i h.2)

-- The item that comes next is as it was.
pub threaded_here : {E A : Type 0} (R : E → A → E → A → Type 0) (xs : List E) (a : A) (ys : List E) (b : A) (i : ℕ) (d : E) → Threaded R xs a ys b i → get_or ys i d ≡ get_or xs i d
threaded_here R xs a ys b zero d h = ap (λ zs. get_or zs 0 d) h.0
threaded_here R [] a ys b (suc i) d h = ap (λ zs. get_or zs (suc i) d) h.0
threaded_here R (x ∷ xs) a [] b (suc i) d h = absurd h
threaded_here R (x ∷ xs) a (y ∷ ys) b (suc i) d h = threaded_here R xs h.0 ys b i d h.2

next : {E A : Type 0} (R : E → A → E → A → Type 0) (xs : List E) (a : A) (ys : List E) (b : A) (i : ℕ) (d y : E) (c : A) → i < length ys → R (get_or ys i d) b y c → Threaded R xs a ys b i → Threaded R xs a (set ys i y) c (suc i)
next R [] a ys b zero d y c below r h = absurd (omega (arith, ap length h.0))
next R (x ∷ xs) a [] b zero d y c below r h = absurd (omega arith)
next {E} {A} R (x ∷ xs) a (z ∷ ys) b zero d y c below r h =
    let whole : z ∷ ys ≡ x ∷ xs = h.0 in
    let first : z ≡ x = cc in
    let others : ys ≡ xs = cc in
    let one : R x b y c = subst (λ (e : E). R e b y c) first r in
    (c, subst (λ (k : A). R x k y c) h.1 one, (others, refl))
next R [] a ys b (suc i) d y c below r h = absurd (omega (arith, ap length h.0))
next R (x ∷ xs) a [] b (suc i) d y c below r h = absurd h
next R (x ∷ xs) a (z ∷ ys) b (suc i) d y c below r h = (h.0, h.1, next R xs h.0 ys b i d y c (omega arith) r h.2)

-- One more item has changed.
pub threaded_next : {E A : Type 0} (R : E → A → E → A → Type 0) (xs : List E) (a : A) (ys : List E) (b : A) (i : ℕ) (d y : E) (c : A) → i < length ys → R (get_or ys i d) b y c → Threaded R xs a ys b i → Threaded R xs a (set ys i y) c (i + 1)
threaded_next R xs a ys b i d y c below r h = rw add-one (next R xs a ys b i d y c below r h)

pub threaded_whole : {E A : Type 0} (R : E → A → E → A → Type 0) (xs : List E) (a : A) (ys : List E) (b : A) (i : ℕ) → length xs ≤ i → Threaded R xs a ys b i → AllThreaded R xs a ys b
threaded_whole R [] a [] b zero end h = h.1
threaded_whole R [] a [] b (suc i) end h = h.1
threaded_whole R [] a (y ∷ ys) b zero end h = let e : y ∷ ys ≡ [] = h.0 in absurd (cc)
threaded_whole R [] a (y ∷ ys) b (suc i) end h = let e : y ∷ ys ≡ [] = h.0 in absurd (cc)
threaded_whole R (x ∷ xs) a ys b zero end h = absurd (omega arith)
threaded_whole R (x ∷ xs) a [] b (suc i) end h = absurd h
threaded_whole R (x ∷ xs) a (y ∷ ys) b (suc i) end h = (h.0, h.1, threaded_whole R xs h.0 ys b i (omega arith) h.2)
