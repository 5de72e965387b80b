-- The rows of one group more.
use Rattle.std.proofs.Common.{◌≡◌, ℕ, zero, suc, ◌+◌, add-one, List, [], ◌∷◌, ◌++◌, take, slice_get, refl, ap}
use Rattle.sym_message.specs.Summaries.{listed}

-- The first groups, and one more.
pub taken : {A : Type 0} (xs : List A) (i : ℕ) → take (i + 1) xs ≡ take i xs ++ listed (slice_get xs i)
taken [] zero = refl
taken [] (suc i) = rw add-one refl
taken (x ∷ xs) zero = refl
taken (x ∷ xs) (suc i) = rw add-one (ap (λ ys. x ∷ ys) (rw add-one at (taken xs i)))
