-- A read of the piece at hand is one of all pieces.
use Rattle.std.proofs.Common.{◌≡◌, ◌<◌, ◌∙◌, refl, sym, ap, arith, ℕ, ◌+◌, min, List, [], ◌∷◌, ◌++◌, append_assoc, length, take, Some, Result, Ok}
use Rattle.std.specs.Io.KnownBytes.{ReadConsumes}

no_more : (mid later : List ℕ) → length mid ≡ 0 → (mid ≡ [] → mid ++ later ≡ []) → later ≡ []
no_more [] later e h = h refl
no_more (b ∷ mid) later e h = absurd (omega (arith, e))

pub consumed : {E : Type 0} (old mid new later buf : List ℕ) (k size : ℕ) (r : Result ℕ E) → r ≡ Ok k → k ≡ min (length mid) size → size ≡ length buf
    → mid ++ later ≡ old → (mid ≡ [] → mid ++ later ≡ []) → ReadConsumes (Some mid) (Some new) r buf → ReadConsumes (Some old) (Some (new ++ later)) r buf
consumed old mid new later buf k size r is few same whole none read =
    let parts = rw is at read in
    rw is (
      sym whole ∙ ap (λ (xs : List ℕ). xs ++ later) parts.0 ∙ append_assoc (take k buf) new later,
      λ (zero : k ≡ 0) (room : 0 < length buf).
          ap (λ (xs : List ℕ). xs ++ later) (parts.1 zero room) ∙ no_more mid later (omega arith) none,
    )
