-- Lists in which one place is set.
use Rattle.std.proofs.Common.{◌≡◌, ◌≢◌, ℕ, zero, suc, false, nat_eq, List, [], ◌∷◌, slice_get, slice_set, refl, ap}
use Rattle.std.proofs.lemmas.Bool.{eqb-false}

-- Of two items that are set at a place the later one counts.
pub set-twice : {A : Type 0} (xs : List A) (i : ℕ) (x y : A) → slice_set (slice_set xs i x) i y ≡ slice_set xs i y
set-twice [] i x y = refl
set-twice (z ∷ xs) zero x y = refl
set-twice (z ∷ xs) (suc i) x y = ap (λ zs. z ∷ zs) (set-twice xs i x y)

-- An item at another place stays.
at_other : {A : Type 0} (xs : List A) (i j : ℕ) (x : A) → i ≢ j → slice_get (slice_set xs i x) j ≡ slice_get xs j
at_other [] i j x apart = refl
at_other (z ∷ xs) zero zero x apart = absurd (apart refl)
at_other (z ∷ xs) zero (suc j) x apart = refl
at_other (z ∷ xs) (suc i) zero x apart = refl
at_other (z ∷ xs) (suc i) (suc j) x apart = at_other xs i j x (λ e. apart (ap suc e))

pub get-elsewhere : {A : Type 0} (xs : List A) (i j : ℕ) (x : A) → nat_eq i j ≡ false → slice_get (slice_set xs i x) j ≡ slice_get xs j
get-elsewhere xs i j x apart = at_other xs i j x (eqb-false i j apart)
