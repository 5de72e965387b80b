-- Lists: the item at a place, and two lists place by place.
use Rattle.std.proofs.Common.{◌≡◌, ◌∙◌, ap, sym, arith, ℕ, zero, suc, ◌+◌, ◌*◌, ◌/◌, ◌%◌, ◌<◌, ◌≤◌, inl, inr, min, List, [], ◌∷◌, length, drop, get_or, add-one, drop-cons, None, slice_get}
use Rattle.std.proofs.lemmas.Grind.{div_ceil_times}
use Rattle.std.proofs.lemmas.Option.{slice_get_cases}
use Rattle.std.specs.List.{AllZip}

-- The item at a place, before those that are left.
pub left_from : {A : Type 0} (xs : List A) (i : ℕ) (x : A) → i < length xs → x ≡ get_or xs i x → drop i xs ≡ x ∷ drop (i + 1) xs
left_from xs i x within is = rw add-one (drop-cons xs i x within ∙ ap (λ y. y ∷ drop (suc i) xs) (sym is))

-- What holds at each place.
pub zip_each : {A B : Type 0} (R : A → B → Type 0) (xs : List A) (ys : List B) → length xs ≡ length ys → ((i : ℕ) (a : A) (b : B) → i < length xs → R (get_or xs i a) (get_or ys i b)) → AllZip R xs ys
zip_each R [] [] long each = tt
zip_each R [] (y ∷ ys) long each = absurd (omega arith)
zip_each R (x ∷ xs) [] long each = absurd (omega arith)
zip_each R (x ∷ xs) (y ∷ ys) long each = (each 0 x y (omega arith), zip_each R xs ys (omega arith) (λ i a b within. each (suc i) a b (omega arith)))

-- Past the end there is nothing.
pub none_past : {A : Type 0} (xs : List A) (i : ℕ) → slice_get xs i ≡ None → length xs ≤ i
none_past xs i none = elim (slice_get_cases xs i).1 [ inl found ↦ (let is = found.2 in absurd (cc)) | inr past ↦ past.0 ]

-- A number that isn't 0, rounded up to parts, gives parts that aren't empty.
pub some_size : (a b : ℕ) → 1 ≤ a → 1 ≤ b → 1 ≤ a / b + min 1 (a % b)
some_size a b some parts = of (a / b + min 1 (a % b)) (div_ceil_times a b (omega arith)).0
  where
    of : (n : ℕ) → a ≤ n * b → 1 ≤ n
    of zero h = absurd (omega arith)
    of (suc n) h = omega arith
