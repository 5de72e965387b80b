-- The fields of a row by their places.
use Rattle.std.proofs.Common.{◌≡◌, refl, ℕ, zero, suc, ◌<◌, arith, length, List, [], ◌∷◌, Some, None, slice_get, get_or}
use Rattle.csv.specs.Records.{field_at}

pub field_got : (row : List (List ℕ)) (i : ℕ) → field_at row i ≡ slice_get row i
unfolding field_at
field_got [] zero = refl
field_got [] (suc i) = refl
field_got (f ∷ row) zero = refl
field_got (f ∷ row) (suc i) = field_got row i

pub item_there : {A : Type 0} (xs : List A) (i : ℕ) (x d : A) → Some x ≡ slice_get xs i → get_or xs i d ≡ x
item_there [] i x d e = cc e
item_there (y ∷ xs) zero x d e = cc e
item_there (y ∷ xs) (suc i) x d e = item_there xs i x d e

pub no_item : {A : Type 0} (xs : List A) (i : ℕ) (d : A) → None ≡ slice_get xs i → get_or xs i d ≡ d
no_item [] i d e = refl
no_item (y ∷ xs) zero d e = cc e
no_item (y ∷ xs) (suc i) d e = no_item xs i d e

pub not_missing : {A : Type 0} (xs : List A) (i : ℕ) → i < length xs → None ≡ slice_get xs i → ⊥
not_missing [] i h e = omega (arith, h)
not_missing (y ∷ xs) zero h e = cc e
not_missing (y ∷ xs) (suc i) h e = not_missing xs i (omega arith) e
