-- How a text is written between quotes. The rules are this project's profile.
use Rattle.std.specs.Prelude.{ℕ, if◌then◌else◌, List, [], ◌∷◌, ◌++◌}
use Rattle.sym_lex.specs.Letters.{is_escaped}

-- The text with a `\` before each `"` and each `\`.
abbrev pub escaped : List ℕ → List ℕ
escaped [] = []
escaped (b ∷ rest) = if is_escaped b then 92 ∷ b ∷ escaped rest else b ∷ escaped rest

-- The same between two `"`.
abbrev pub quoted : List ℕ → List ℕ
quoted text = 34 ∷ (escaped text ++ 34 ∷ [])
