-- Lists of which the first items have changed, and the others are as they were.
use Rattle.std.proofs.Common.{◌≡◌, ℕ, zero, suc, ◌+◌, ◌<◌, ◌≤◌, List, [], ◌∷◌, length, get_or, set, refl, ap, subst, arith, add-one}
use Rattle.std.specs.List.{AllZip}

-- So many of the first items have changed as R says.
abbrev pub Changed : {E : Type 0} → (E → E → Type 0) → List E → List E → ℕ → Type 0
Changed R xs ys zero = ys ≡ xs
Changed R [] ys (suc i) = ys ≡ []
Changed R (x ∷ xs) [] (suc i) = ⊥
Changed R (x ∷ xs) (y ∷ ys) (suc i) = R x y × Changed R xs ys i

pub Changed-length : {E : Type 0} (R : E → E → Type 0) (xs ys : List E) (i : ℕ) → Changed R xs ys i → length ys ≡ length xs
Changed-length R xs ys zero m = ap length m
Changed-length R [] ys (suc i) m = ap length m
Changed-length R (x ∷ xs) [] (suc i) m = absurd m
Changed-length R (x ∷ xs) (y ∷ ys) (suc i) m = ap suc (Changed-length R xs ys i m.1)

-- The item that comes next is as it was.
pub Changed-here : {E : Type 0} (R : E → E → Type 0) (xs ys : List E) (i : ℕ) (d : E) → Changed R xs ys i → get_or ys i d ≡ get_or xs i d
Changed-here R xs ys zero d m = ap (λ zs. get_or zs 0 d) m
Changed-here R [] ys (suc i) d m = ap (λ zs. get_or zs (suc i) d) m
Changed-here R (x ∷ xs) [] (suc i) d m = absurd m
Changed-here R (x ∷ xs) (y ∷ ys) (suc i) d m = Changed-here R xs ys i d m.1

changed_next : {E : Type 0} (R : E → E → Type 0) (xs ys : List E) (i : ℕ) (d y : E) → i < length ys → R (get_or ys i d) y → Changed R xs ys i → Changed R xs (set ys i y) (suc i)
changed_next R [] ys zero d y below r m = absurd (omega (arith, ap length m))
changed_next R (a ∷ xs) [] zero d y below r m = absurd (omega arith)
changed_next R (a ∷ xs) (b ∷ ys) zero d y below r m =
    let first : b ≡ a = cc in
    let others : ys ≡ xs = cc in
    (subst (λ z. R z y) first r, others)
changed_next R [] ys (suc i) d y below r m = absurd (omega (arith, ap length m))
changed_next R (a ∷ xs) [] (suc i) d y below r m = absurd m
changed_next R (a ∷ xs) (b ∷ ys) (suc i) d y below r m = (m.0, changed_next R xs ys i d y (omega arith) r m.1)

-- One more item has changed.
pub Changed-next : {E : Type 0} (R : E → E → Type 0) (xs ys : List E) (i : ℕ) (d y : E) → i < length ys → R (get_or ys i d) y → Changed R xs ys i → Changed R xs (set ys i y) (i + 1)
Changed-next R xs ys i d y below r m = rw add-one (changed_next R xs ys i d y below r m)

-- All items have changed.
pub Changed-whole : {E : Type 0} (R : E → E → Type 0) (xs ys : List E) (i : ℕ) → length xs ≤ i → Changed R xs ys i → AllZip R xs ys
Changed-whole R [] [] i end m = tt
Changed-whole R [] (y ∷ ys) zero end m = cc
Changed-whole R [] (y ∷ ys) (suc i) end m = cc
Changed-whole R (x ∷ xs) ys zero end m = absurd (omega arith)
Changed-whole R (x ∷ xs) [] (suc i) end m = absurd m
Changed-whole R (x ∷ xs) (y ∷ ys) (suc i) end m = (m.0, Changed-whole R xs ys i (omega arith) m.1)

-- A part of what each pair keeps.
pub AllZip-weak : {E : Type 0} (R S : E → E → Type 0) (xs ys : List E) → ((x y : E) → R x y → S x y) → AllZip R xs ys → AllZip S xs ys
AllZip-weak R S [] [] part m = tt
AllZip-weak R S [] (y ∷ ys) part m = absurd m
AllZip-weak R S (x ∷ xs) [] part m = absurd m
AllZip-weak R S (x ∷ xs) (y ∷ ys) part m = (part x y m.0, AllZip-weak R S xs ys part m.1)

pub AllZip-length : {E : Type 0} (R : E → E → Type 0) (xs ys : List E) → AllZip R xs ys → length ys ≡ length xs
AllZip-length R [] [] m = refl
AllZip-length R [] (y ∷ ys) m = absurd m
AllZip-length R (x ∷ xs) [] m = absurd m
AllZip-length R (x ∷ xs) (y ∷ ys) m = ap suc (AllZip-length R xs ys m.1)
