-- What holds of the items so far, and of one more.
use Rattle.std.proofs.Common.{◌≡◌, ◌+◌, ◌<◌, ℕ, zero, suc, inl, inr, arith, subst, sym, ap, ◌∙◌, List, [], ◌∷◌, length, Some, None}
use Rattle.std.proofs.lemmas.Bool.{cases_lt}
use Rattle.std.specs.Prelude.{slice_get}

pub one_further : {A : Type 0} (P : A → Type 0) (xs : List A) (i : ℕ) (x : A) → slice_get xs i ≡ Some x → P x → ((d : ℕ) (y : A) → d < i → slice_get xs d ≡ Some y → P y)
    → (d : ℕ) (y : A) → d < i + 1 → slice_get xs d ≡ Some y → P y
one_further {A} P xs i x ex px h d y lt ey = elim (cases_lt d i) [
  | inl below ↦ h d y below ey
  | inr above ↦
      let at : d ≡ i = omega arith in
      let same : Some x ≡ Some y = sym ex ∙ ap (λ (k : ℕ). slice_get xs k) (sym at) ∙ ey in
      let one : x ≡ y = cc in
      subst P one px
]

-- An index below the length has an item.
pub none_below : {A : Type 0} (xs : List A) (i : ℕ) → slice_get xs i ≡ None → i < length xs → ⊥
none_below [] i e lt = omega (arith, lt)
none_below (x ∷ xs) zero e lt = cc
none_below (x ∷ xs) (suc i) e lt = none_below xs i e (omega (arith, lt))
