-- Lists from an index on, and lists item by item.
use Rattle.std.proofs.Common.{get_or, ◌≡◌, ◌≢◌, ◌<◌, ◌≤◌, ◌+◌, ℕ, zero, suc, Bool, true, false, List, [], ◌∷◌, ◌++◌, Some, None, ◌⊎◌, inl, inr, map, length, take, drop, refl, sym, ap, ◌∙◌, subst, arith, add-one}
use Rattle.std.proofs.lemmas.Bool.{cases_lt}
use Rattle.std.proofs.lemmas.Option.{slice_get-get_or, get_or_from_slice_get, slice_get_within}
use Rattle.std.specs.Prelude.{slice_get, slice_set}
use Rattle.std.specs.List.{All, AllZip, list_all}

pub drop_get : {A : Type 0} (xs : List A) (i : ℕ) (x : A) → slice_get xs i ≡ Some x → drop i xs ≡ x ∷ drop (i + 1) xs
drop_get [] i x e = absurd (cc)
drop_get (y ∷ xs) zero x e = let same : y ≡ x = cc in ap (λ z. z ∷ xs) same
drop_get (y ∷ xs) (suc i) x e = rw add-one (rw add-one at (drop_get xs i x e))

pub drop_past : {A : Type 0} (xs : List A) (i : ℕ) → slice_get xs i ≡ None → drop i xs ≡ []
drop_past [] zero e = refl
drop_past [] (suc i) e = refl
drop_past (y ∷ xs) zero e = absurd (cc)
drop_past (y ∷ xs) (suc i) e = drop_past xs i e

-- A test of all items, from an index on.
pub all_failed : {A : Type 0} (p : A → Bool) (xs : List A) (i : ℕ) (x : A) → slice_get xs i ≡ Some x → p x ≡ false → list_all p xs ≡ list_all p (drop i xs) → list_all p xs ≡ false
all_failed p xs i x e f h = let d = drop_get xs i x e in let g : list_all p (drop i xs) ≡ list_all p (x ∷ drop (i + 1) xs) = ap (list_all p) d in let k : list_all p (x ∷ drop (i + 1) xs) ≡ false = rw f refl in h ∙ g ∙ k

pub all_next : {A : Type 0} (p : A → Bool) (xs : List A) (i : ℕ) (x : A) → slice_get xs i ≡ Some x → p x ≡ true → list_all p xs ≡ list_all p (drop i xs) → list_all p xs ≡ list_all p (drop (i + 1) xs)
all_next p xs i x e f h = let d = drop_get xs i x e in let g : list_all p (drop i xs) ≡ list_all p (x ∷ drop (i + 1) xs) = ap (list_all p) d in let k : list_all p (x ∷ drop (i + 1) xs) ≡ list_all p (drop (i + 1) xs) = rw f refl in h ∙ g ∙ k

pub all_past : {A : Type 0} (p : A → Bool) (xs : List A) (i : ℕ) → slice_get xs i ≡ None → list_all p xs ≡ list_all p (drop i xs) → list_all p xs ≡ true
all_past p xs i e h = h ∙ ap (list_all p) (drop_past xs i e)

-- ---- two lists side by side

pub zip_get : {A B : Type 0} (R : A → B → Type 0) (xs : List A) (ys : List B) (i : ℕ) (x : A) → AllZip R xs ys → slice_get xs i ≡ Some x → (y : B) × (slice_get ys i ≡ Some y) × R x y
zip_get R [] [] i x h e = absurd (cc)
zip_get R [] (b ∷ ys) i x h e = absurd h
zip_get R (a ∷ xs) [] i x h e = absurd h
zip_get {A} R (a ∷ xs) (b ∷ ys) zero x h e = let same : a ≡ x = cc in let P : A → Type 0 = λ v. R v b in (b, refl, subst P same h.0)
zip_get R (a ∷ xs) (b ∷ ys) (suc i) x h e = zip_get R xs ys i x h.1 e

pub zip_get_right : {A B : Type 0} (R : A → B → Type 0) (xs : List A) (ys : List B) (i : ℕ) (y : B) → AllZip R xs ys → slice_get ys i ≡ Some y → (x : A) × (slice_get xs i ≡ Some x) × R x y
zip_get_right R [] [] i y h e = absurd (cc)
zip_get_right R [] (b ∷ ys) i y h e = absurd h
zip_get_right R (a ∷ xs) [] i y h e = absurd h
zip_get_right {A} {B} R (a ∷ xs) (b ∷ ys) zero y h e = let same : b ≡ y = cc in let P : B → Type 0 = λ v. R a v in (a, refl, subst P same h.0)
zip_get_right R (a ∷ xs) (b ∷ ys) (suc i) y h e = zip_get_right R xs ys i y h.1 e

pub zip_at : {A B : Type 0} (R : A → B → Type 0) (xs : List A) (ys : List B) (i : ℕ) (x : A) (y : B) → AllZip R xs ys → slice_get xs i ≡ Some x → slice_get ys i ≡ Some y → R x y
zip_at R [] ys i x y h e f = absurd (cc)
zip_at R (a ∷ xs) [] i x y h e f = absurd h
zip_at {A} {B} R (a ∷ xs) (b ∷ ys) zero x y h e f =
    let same : a ≡ x = cc in
    let same' : b ≡ y = cc in
    let P : A → Type 0 = λ v. R v b in
    let Q : B → Type 0 = λ v. R x v in
    subst Q same' (subst P same h.0)
zip_at R (a ∷ xs) (b ∷ ys) (suc i) x y h e f = zip_at R xs ys i x y h.1 e f

-- Two lists of one length whose items stand to each other.
pub zip_from : {A B : Type 0} (R : A → B → Type 0) (xs : List A) (ys : List B) → length xs ≡ length ys → ((i : ℕ) (x : A) (y : B) → slice_get xs i ≡ Some x → slice_get ys i ≡ Some y → R x y) → AllZip R xs ys
zip_from R [] [] e h = tt
zip_from R [] (b ∷ ys) e h = absurd (omega arith)
zip_from R (a ∷ xs) [] e h = absurd (omega arith)
zip_from R (a ∷ xs) (b ∷ ys) e h = (h 0 a b refl refl, zip_from R xs ys (omega arith) (λ i x y. h (suc i) x y))

pub zip_length : {A B : Type 0} (R : A → B → Type 0) (xs : List A) (ys : List B) → AllZip R xs ys → length xs ≡ length ys
zip_length R [] [] h = refl
zip_length R [] (b ∷ ys) h = absurd h
zip_length R (a ∷ xs) [] h = absurd h
zip_length R (a ∷ xs) (b ∷ ys) h = ap suc (zip_length R xs ys h.1)

pub no_gap : {A : Type 0} (xs : List A) (i : ℕ) → i < length xs → slice_get xs i ≡ None → ⊥
no_gap [] i h e = omega arith
no_gap (x ∷ xs) zero h e = cc
no_gap (x ∷ xs) (suc i) h e = no_gap xs i (omega arith) e

pub take_get : {A : Type 0} (xs : List A) (i : ℕ) (x : A) → slice_get xs i ≡ Some x → take (i + 1) xs ≡ take i xs ++ x ∷ []
take_get [] i x e = absurd (cc)
take_get (y ∷ xs) zero x e = let same : y ≡ x = cc in ap (λ z. z ∷ []) same
take_get (y ∷ xs) (suc i) x e = rw add-one (ap (λ zs. y ∷ zs) (rw add-one at (take_get xs i x e)))

-- All items, by their indices.
pub all_from : {A : Type 0} (P : A → Type 0) (xs : List A) → ((i : ℕ) (x : A) → slice_get xs i ≡ Some x → P x) → All P xs
all_from P xs h k d l = h k (get_or xs k d) (slice_get-get_or xs k d l)

pub all_at : {A : Type 0} (P : A → Type 0) (xs : List A) (i : ℕ) (x : A) → All P xs → slice_get xs i ≡ Some x → P x
all_at {A} P xs i x h e = let same = get_or_from_slice_get xs i x x e in let Q : A → Type 0 = λ v. P v in subst Q same (h i x (slice_get_within xs i x e))

-- The item at an index within the list.
pub get_within : {A : Type 0} (xs : List A) (i : ℕ) → i < length xs → (x : A) × (slice_get xs i ≡ Some x)
get_within [] i h = absurd (omega arith)
get_within (x ∷ xs) zero h = (x, refl)
get_within (x ∷ xs) (suc i) h = get_within xs i (omega arith)

-- What stands in a list in which one item is replaced.
pub set_cases : {A : Type 0} (xs : List A) (k i : ℕ) (v y : A) → slice_get (slice_set xs k v) i ≡ Some y → ((i ≡ k) × (y ≡ v)) ⊎ ((i ≢ k) × (slice_get xs i ≡ Some y))
set_cases [] k i v y e = absurd (cc)
set_cases (x ∷ xs) zero zero v y e = inl (refl, cc)
set_cases (x ∷ xs) zero (suc i) v y e = inr (λ p. cc, e)
set_cases (x ∷ xs) (suc k) zero v y e = inr (λ p. cc, e)
set_cases (x ∷ xs) (suc k) (suc i) v y e = elim (set_cases xs k i v y e) [ inl h ↦ inl (ap suc h.0, h.1) | inr h ↦ inr (λ p. h.0 (cc), h.1) ]

pub set_same : {A : Type 0} (xs : List A) (k : ℕ) (v x : A) → slice_get xs k ≡ Some x → slice_get (slice_set xs k v) k ≡ Some v
set_same [] k v x e = absurd (cc)
set_same (y ∷ xs) zero v x e = refl
set_same (y ∷ xs) (suc k) v x e = set_same xs k v x e

pub set_past : {A : Type 0} (xs : List A) (k : ℕ) (v : A) → slice_get xs k ≡ None → slice_set xs k v ≡ xs
set_past [] k v e = refl
set_past (x ∷ xs) zero v e = absurd (cc)
set_past (x ∷ xs) (suc k) v e = ap (λ ys. x ∷ ys) (set_past xs k v e)

pub set_other : {A : Type 0} (xs : List A) (k i : ℕ) (v : A) → i ≢ k → slice_get (slice_set xs k v) i ≡ slice_get xs i
set_other [] k i v e = refl
set_other (x ∷ xs) zero zero v e = absurd (e refl)
set_other (x ∷ xs) zero (suc i) v e = refl
set_other (x ∷ xs) (suc k) zero v e = refl
set_other (x ∷ xs) (suc k) (suc i) v e = set_other xs k i v (λ p. e (ap suc p))

pub zip_set : {A B : Type 0} (R : A → B → Type 0) (xs : List A) (ys : List B) (i : ℕ) (x : A) (y : B) → AllZip R xs ys → slice_get xs i ≡ Some x → R x y → AllZip R xs (slice_set ys i y)
zip_set R [] [] i x y h e r = tt
zip_set R [] (b ∷ ys) i x y h e r = absurd h
zip_set R (a ∷ xs) [] i x y h e r = absurd h
zip_set {A} R (a ∷ xs) (b ∷ ys) zero x y h e r = let same : x ≡ a = cc in let P : A → Type 0 = λ v. R v y in (subst P same r, h.1)
zip_set R (a ∷ xs) (b ∷ ys) (suc i) x y h e r = (h.0, zip_set R xs ys i x y h.1 e r)

pub zip_weak : {A B : Type 0} (R S : A → B → Type 0) (xs : List A) (ys : List B) → ((x : A) (y : B) → R x y → S x y) → AllZip R xs ys → AllZip S xs ys
zip_weak R S [] [] step h = tt
zip_weak R S [] (b ∷ ys) step h = absurd h
zip_weak R S (a ∷ xs) [] step h = absurd h
zip_weak R S (a ∷ xs) (b ∷ ys) step h = (step a b h.0, zip_weak R S xs ys step h.1)

-- What holds of the items of one list, carried over to those beside them.
pub zip_all : {A B : Type 0} (R : A → B → Type 0) (P : A → Type 0) (Q : B → Type 0) (xs : List A) (ys : List B) → ((x : A) (y : B) → R x y → P x → Q y) → AllZip R xs ys → All P xs → All Q ys
zip_all {A} {B} R P Q xs ys step h all = all_from Q ys each
  where
    each : (i : ℕ) (y : B) → slice_get ys i ≡ Some y → Q y
    each i y e = let found = zip_get_right R xs ys i y h e in step found.0 y found.2 (all_at P xs i found.0 all found.1)

-- A relation between one list and a second, carried over to a third beside that.
pub zip_trans : {A B C : Type 0} (R : A → B → Type 0) (S : B → C → Type 0) (T : A → C → Type 0) (xs : List A) (ys : List B) (zs : List C) → ((x : A) (y : B) (z : C) → R x y → S y z → T x z) → AllZip R xs ys → AllZip S ys zs → AllZip T xs zs
zip_trans R S T [] [] [] step h k = tt
zip_trans R S T [] [] (z ∷ zs) step h k = absurd k
zip_trans R S T [] (y ∷ ys) zs step h k = absurd h
zip_trans R S T (x ∷ xs) [] zs step h k = absurd h
zip_trans R S T (x ∷ xs) (y ∷ ys) [] step h k = absurd k
zip_trans R S T (x ∷ xs) (y ∷ ys) (z ∷ zs) step h k = (step x y z h.0 k.0, zip_trans R S T xs ys zs step h.1 k.1)

pub zip_map : {A B C : Type 0} (R : A → B → Type 0) (S : A → C → Type 0) (f : B → C) (xs : List A) (ys : List B) → ((x : A) (y : B) → R x y → S x (f y)) → AllZip R xs ys → AllZip S xs (map f ys)
zip_map R S f [] [] step h = tt
zip_map R S f [] (y ∷ ys) step h = absurd h
zip_map R S f (x ∷ xs) [] step h = absurd h
zip_map R S f (x ∷ xs) (y ∷ ys) step h = (step x y h.0, zip_map R S f xs ys step h.1)

-- One pair more.
pub below_next : {A B : Type 0} (R : A → B → Type 0) (xs : List A) (ys : List B) (i : ℕ) (x : A) (y : B) → slice_get xs i ≡ Some x → slice_get ys i ≡ Some y → R x y → ((d : ℕ) (a : A) (b : B) → d < i → slice_get xs d ≡ Some a → slice_get ys d ≡ Some b → R a b) → (d : ℕ) (a : A) (b : B) → d < i + 1 → slice_get xs d ≡ Some a → slice_get ys d ≡ Some b → R a b
below_next {A} {B} R xs ys i x y ex ey r h d a b lt ea eb = elim (cases_lt d i) [
  | inl below ↦ h d a b below ea eb
  | inr above ↦
      let at : d ≡ i = omega arith in
      let sx : Some x ≡ Some a = sym ex ∙ ap (slice_get xs) (sym at) ∙ ea in
      let sy : Some y ≡ Some b = sym ey ∙ ap (slice_get ys) (sym at) ∙ eb in
      let px : x ≡ a = cc in
      let py : y ≡ b = cc in
      let P : A → Type 0 = λ v. R v y in
      let Q : B → Type 0 = λ v. R a v in
      subst Q py (subst P px r)
]

-- What stands in a list with one item more at its end.
pub push_cases : {A : Type 0} (xs : List A) (x : A) (i : ℕ) (y : A) → slice_get (xs ++ x ∷ []) i ≡ Some y → ((i < length xs) × (slice_get xs i ≡ Some y)) ⊎ ((i ≡ length xs) × (y ≡ x))
push_cases [] x zero y e = inr (refl, cc)
push_cases [] x (suc i) y e = absurd (let n : None ≡ Some y = e in cc)
push_cases (z ∷ xs) x zero y e = inl (omega arith, e)
push_cases (z ∷ xs) x (suc i) y e = elim (push_cases xs x i y e) [ inl h ↦ inl (let l = h.0 in omega arith, h.1) | inr h ↦ inr (ap suc h.0, h.1) ]

pub take_and_drop : {A : Type 0} (n : ℕ) (xs : List A) → take n xs ++ drop n xs ≡ xs
take_and_drop zero xs = refl
take_and_drop (suc n) [] = refl
take_and_drop (suc n) (x ∷ xs) = ap (λ ys. x ∷ ys) (take_and_drop n xs)

pub map_both : {A B : Type 0} (f : A → B) (xs ys : List A) → map f (xs ++ ys) ≡ map f xs ++ map f ys
map_both f [] ys = refl
map_both f (x ∷ xs) ys = ap (λ zs. f x ∷ zs) (map_both f xs ys)

pub zip_both : {A B : Type 0} (R : A → B → Type 0) (xs : List A) (ys : List B) (x : A) (y : B) → R x y → AllZip R xs ys → AllZip R (xs ++ x ∷ []) (ys ++ y ∷ [])
zip_both R [] [] x y r h = (r, tt)
zip_both R [] (b ∷ ys) x y r h = absurd h
zip_both R (a ∷ xs) [] x y r h = absurd h
zip_both R (a ∷ xs) (b ∷ ys) x y r h = (h.0, zip_both R xs ys x y r h.1)

-- One pair more.
pub zip_push : {A B : Type 0} (R : A → B → Type 0) (xs : List A) (ys zs : List B) (i : ℕ) (x : A) (y : B) → slice_get xs i ≡ Some x → zs ≡ ys ++ y ∷ [] → R x y → AllZip R (take i xs) ys → AllZip R (take (i + 1) xs) zs
zip_push R xs ys zs i x y e same r h = rw (take_get xs i x e, same) (zip_both R (take i xs) ys x y r h)

pub take_past : {A : Type 0} (xs : List A) (i : ℕ) → length xs ≤ i → take i xs ≡ xs
take_past [] zero h = refl
take_past [] (suc i) h = refl
take_past (x ∷ xs) zero h = absurd (omega arith)
take_past (x ∷ xs) (suc i) h = ap (λ ys. x ∷ ys) (take_past xs i (omega arith))
