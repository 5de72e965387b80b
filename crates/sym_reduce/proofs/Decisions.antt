-- Statements that are decided, and how those of lists and of ranges are.
use Rattle.std.proofs.Common.{◌≡◌, ◌⊎◌, inl, inr, refl, sym, subst, ℕ, zero, suc, ◌<◌, ◌≤◌, ℤ, pos, ◌≤ℤ◌, ◌<ℤ◌, ◌+ℤ◌, arith, Bool, true, false, List, [], ◌∷◌}
use Rattle.std.specs.Bool.{Decides}
use Rattle.std.specs.List.{All, AllZip, AllByRecursion, IsDistinct}
use Rattle.std.proofs.lemmas.Bool.{cases_eq, cases_lt}
use Rattle.std.proofs.lemmas.Bool.Decides.{not_from_Decides}
use Rattle.std.proofs.lemmas.Int.{ints, by_lt_z}
use Rattle.std.proofs.lemmas.List.Elements.{All-cons, All-head, All-nil, All-tail}

-- It holds, or it doesn't.
abbrev pub Decided : Type 0 → Type 0
Decided P = P ⊎ (P → ⊥)

pub like : {P Q : Type 0} → (P → Q) → (Q → P) → Decided P → Decided Q
like f g (inl p) = inl (f p)
like f g (inr none) = inr (λ q. none (g q))

pub both : {P Q : Type 0} → Decided P → Decided Q → Decided (P × Q)
both (inl p) (inl q) = inl (p, q)
both (inl p) (inr none) = inr (λ h. none h.1)
both (inr none) d = inr (λ h. none h.0)

pub neither : {P : Type 0} → Decided P → Decided (P → ⊥)
neither (inl p) = inr (λ none. none p)
neither (inr none) = inl none

pub by_test : {P : Type 0} (b : Bool) → Decides b P → Decided P
by_test true d = inl (d.0 refl)
by_test false d = inr (not_from_Decides false d refl)

pub is_true : (b : Bool) → Decided (b ≡ true)
is_true true = inl refl
is_true false = inr (λ e. cc)

pub is_false : (b : Bool) → Decided (b ≡ false)
is_false true = inr (λ e. cc)
is_false false = inl refl

pub less : (m n : ℕ) → Decided (m < n)
less m n = elim (cases_lt m n) [
  | inl below ↦ inl below
  | inr above ↦ inr (λ h. omega arith)
]

pub at_most : (m n : ℕ) → Decided (m ≤ n)
at_most m n = elim (cases_lt n m) [
  | inl below ↦ inr (λ h. omega arith)
  | inr above ↦ inl above
]

pub same : (m n : ℕ) → Decided (m ≡ n)
same m n = cases_eq m n

pub at_most_z : (x y : ℤ) → Decided (x ≤ℤ y)
at_most_z x y = by_lt_z y x (λ below. inr (λ h. omega (arith, ints))) (λ above. inl above)

-- ---- lists
pub all : {A : Type 0} (P : A → Type 0) → ((x : A) → Decided (P x)) → (xs : List A) → Decided (All P xs)
all P each [] = inl (All-nil P)
all P each (x ∷ xs) = like (λ h. All-cons P x xs h.0 h.1) (λ h. (All-head P x xs h, All-tail P x xs h)) (both (each x) (all P each xs))

pub zipped : {A B : Type 0} (R : A → B → Type 0) → ((x : A) (y : B) → Decided (R x y)) → (xs : List A) (ys : List B) → Decided (AllZip R xs ys)
zipped R each [] [] = inl tt
zipped R each [] (y ∷ ys) = inr (λ h. h)
zipped R each (x ∷ xs) [] = inr (λ h. h)
zipped R each (x ∷ xs) (y ∷ ys) = both (each x y) (zipped R each xs ys)

none_of : {A : Type 0} (e : A → A → Bool) (x : A) (xs : List A) → Decided (AllByRecursion (λ y. e x y ≡ false) xs)
none_of e x [] = inl tt
none_of e x (y ∷ xs) = both (is_false (e x y)) (none_of e x xs)

pub distinct : {A : Type 0} (e : A → A → Bool) (xs : List A) → Decided (IsDistinct e xs)
unfolding IsDistinct
distinct e [] = inl tt
distinct e (x ∷ xs) = both (none_of e x xs) (distinct e xs)

-- ---- ranges

-- Each number below one.
pub below : (P : ℕ → Type 0) → ((k : ℕ) → Decided (P k)) → (n : ℕ) → Decided ((k : ℕ) → k < n → P k)
below P each zero = inl (λ k lt. absurd (omega arith))
below P each (suc n) = like (λ h k lt. last h.0 h.1 k lt) (λ h. (h n (omega arith), λ k lt. h k (omega arith))) (both (each n) (below P each n))
  where
    last : P n → ((k : ℕ) → k < n → P k) → (k : ℕ) → k < suc n → P k
    last now rest k lt = elim (cases_eq k n) [
      | inl e ↦ subst P (sym e) now
      | inr apart ↦ rest k (omega arith)
    ]

-- One of them.
pub one_below : (P : ℕ → Type 0) → ((k : ℕ) → Decided (P k)) → (n : ℕ) → Decided ((k : ℕ) × (k < n) × P k)
one_below P each zero = inr (λ h. let lt = h.1 in omega arith)
one_below P each (suc n) = elim (each n) [
  | inl here ↦ inl (n, omega arith, here)
  | inr none ↦ like (λ h. let lt = h.1 in (h.0, omega arith, h.2)) (λ h. earlier none h) (one_below P each n)
]
  where
    earlier : (P n → ⊥) → ((k : ℕ) × (k < suc n) × P k) → (k : ℕ) × (k < n) × P k
    earlier none h = elim (cases_eq h.0 n) [
      | inl e ↦ absurd (none (subst P e h.2))
      | inr apart ↦ (h.0, (let lt = h.1 in omega arith), h.2)
    ]

-- Each integer from one on, so many.
pub between : (P : ℤ → Type 0) → ((x : ℤ) → Decided (P x)) → (lo : ℤ) (n : ℕ) → Decided ((x : ℤ) → lo ≤ℤ x → x <ℤ (lo +ℤ pos n) → P x)
between P each lo zero = inl (λ x from to. absurd (omega (arith, ints)))
between P each lo (suc n) =
    like (λ h x from to. last h.0 h.1 x from to) (λ h. (h (lo +ℤ pos n) (omega (arith, ints)) (omega (arith, ints)), λ x from to. h x from (omega (arith, ints))))
    (both (each (lo +ℤ pos n)) (between P each lo n))
  where
    last : P (lo +ℤ pos n) → ((x : ℤ) → lo ≤ℤ x → x <ℤ (lo +ℤ pos n) → P x) → (x : ℤ) → lo ≤ℤ x → x <ℤ (lo +ℤ pos (suc n)) → P x
    last now rest x from to = by_lt_z x (lo +ℤ pos n) (λ early. rest x from early) (λ late. let e : lo +ℤ pos n ≡ x = omega (arith, ints) in subst P e now)
