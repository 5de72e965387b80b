-- Blanks at the ends of a text.
use Rattle.std.proofs.Common.{◌≡◌, refl, ℕ, true, false, List, [], ◌∷◌, ◌++◌}
use Rattle.std.proofs.lemmas.List.{reverse-append, reverse-reverse}
use Rattle.sym_table.specs.Texts.{is_blank, cut_blanks}

pub cut_blank : (text : List ℕ) (b : ℕ) → is_blank b ≡ true → cut_blanks (text ++ b ∷ []) ≡ cut_blanks text
cut_blank text b h = rw (reverse-append text (b ∷ []), h) refl

pub cut_none : (text : List ℕ) (b : ℕ) → is_blank b ≡ false → cut_blanks (text ++ b ∷ []) ≡ text ++ b ∷ []
cut_none text b h = rw (reverse-append text (b ∷ []), h) (rw (← reverse-append text (b ∷ [])) (reverse-reverse (text ++ b ∷ [])))
