-- The byte-order mark at the start of a text.
use Rattle.std.proofs.Common.{◌≡◌, ◌≤◌, ℕ, Bool, true, false, if◌then◌else◌, arith, List, [], ◌∷◌, length, drop, get_or, refl}
use Rattle.csv.specs.Reading.{is_bom, strip_bom}

pub mark_cut : (xs : List ℕ) → 3 ≤ length xs → is_bom (get_or xs 0 0) (get_or xs 1 0) (get_or xs 2 0) ≡ true → strip_bom xs ≡ drop 3 xs
unfolding strip_bom
mark_cut [] h e = absurd (omega (arith, h))
mark_cut (a ∷ []) h e = absurd (omega (arith, h))
mark_cut (a ∷ b ∷ []) h e = absurd (omega (arith, h))
mark_cut (a ∷ b ∷ c ∷ rest) h e = rw e refl

pub no_mark : (xs : List ℕ) → 3 ≤ length xs → is_bom (get_or xs 0 0) (get_or xs 1 0) (get_or xs 2 0) ≡ false → strip_bom xs ≡ xs
unfolding strip_bom
no_mark [] h e = absurd (omega (arith, h))
no_mark (a ∷ []) h e = absurd (omega (arith, h))
no_mark (a ∷ b ∷ []) h e = absurd (omega (arith, h))
no_mark (a ∷ b ∷ c ∷ rest) h e = rw e refl

pub strip_less : (xs : List ℕ) → length (strip_bom xs) ≤ length xs
unfolding strip_bom
strip_less [] = omega arith
strip_less (a ∷ []) = omega arith
strip_less (a ∷ b ∷ []) = omega arith
strip_less (a ∷ b ∷ c ∷ rest) = less (is_bom a b c)
  where
    less : (t : Bool) → length (if t then rest else a ∷ b ∷ c ∷ rest) ≤ length (a ∷ b ∷ c ∷ rest)
    less true = omega arith
    less false = omega arith
