-- Two lists side by side.
use Rattle.std.proofs.Common.{◌≡◌, ℕ, zero, suc, List, [], ◌∷◌, ◌++◌, Some, replicate, refl, subst}
use Rattle.std.specs.Prelude.{slice_get, slice_set}
use Rattle.std.specs.List.{AllZip}

-- What stands beside an item.
pub zip_get : {A B : Type 0} (R : A → B → Type 0) (xs : List A) (ys : List B) (i : ℕ) (x : A) → AllZip R xs ys → slice_get xs i ≡ Some x → (y : B) × (slice_get ys i ≡ Some y) × R x y
zip_get R [] [] i x h e = absurd (cc)
zip_get R [] (b ∷ ys) i x h e = absurd h
zip_get R (a ∷ xs) [] i x h e = absurd h
zip_get {A} R (a ∷ xs) (b ∷ ys) zero x h e = let same : a ≡ x = cc in let P : A → Type 0 = λ v. R v b in (b, refl, subst P same h.0)
zip_get R (a ∷ xs) (b ∷ ys) (suc i) x h e = zip_get R xs ys i x h.1 e

-- An item is replaced beside what suits it.
pub zip_set : {A B : Type 0} (R : A → B → Type 0) (xs : List A) (ys : List B) (i : ℕ) (x : A) (y : B) → AllZip R xs ys → slice_get xs i ≡ Some x → R x y → AllZip R xs (slice_set ys i y)
zip_set R [] [] i x y h e r = tt
zip_set R [] (b ∷ ys) i x y h e r = absurd h
zip_set R (a ∷ xs) [] i x y h e r = absurd h
zip_set {A} R (a ∷ xs) (b ∷ ys) zero x y h e r = let same : x ≡ a = cc in let P : A → Type 0 = λ v. R v y in (subst P same r, h.1)
zip_set R (a ∷ xs) (b ∷ ys) (suc i) x y h e r = (h.0, zip_set R xs ys i x y h.1 e r)

pub zip_append : {A B : Type 0} (R : A → B → Type 0) (xs xs' : List A) (ys ys' : List B) → AllZip R xs ys → AllZip R xs' ys' → AllZip R (xs ++ xs') (ys ++ ys')
zip_append R [] xs' [] ys' h k = k
zip_append R [] xs' (b ∷ ys) ys' h k = absurd h
zip_append R (a ∷ xs) xs' [] ys' h k = absurd h
zip_append R (a ∷ xs) xs' (b ∷ ys) ys' h k = (h.0, zip_append R xs xs' ys ys' h.1 k)

pub zip_replicate : {A B : Type 0} (R : A → B → Type 0) (n : ℕ) (x : A) (y : B) → R x y → AllZip R (replicate n x) (replicate n y)
zip_replicate R zero x y r = tt
zip_replicate R (suc n) x y r = (r, zip_replicate R n x y r)
