-- The bytes of a script's text, those of names aside. The rules are this project's profile.
use Rattle.std.specs.Prelude.{ℕ, Bool, false, not, ◌==◌, ◌||◌, List, [], ◌∷◌}

-- Space, tab, CR and LF separate tokens.
abbrev pub is_blank : ℕ → Bool
is_blank b = (b == 32) || (b == 9) || (b == 13) || (b == 10)

-- `#`, from which a comment runs to the next LF or to the end.
abbrev pub is_hash : ℕ → Bool
is_hash b = b == 35

abbrev pub is_line_end : ℕ → Bool
is_line_end b = b == 10

-- Any byte but LF: those of comments and of texts.
abbrev pub is_in_line : ℕ → Bool
is_in_line b = not (is_line_end b)

-- `"`, which stands before and after a text.
abbrev pub is_quote : ℕ → Bool
is_quote b = b == 34

abbrev pub is_backslash : ℕ → Bool
is_backslash b = b == 92

-- `"` and `\`, which are written only after a `\` between quotes.
abbrev pub is_escaped : ℕ → Bool
is_escaped b = is_quote b || is_backslash b

-- Whether there is a first byte, and it passes.
abbrev pub begins : (ℕ → Bool) → List ℕ → Bool
begins p [] = false
begins p (b ∷ rest) = p b
