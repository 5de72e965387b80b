-- Names of a script: their bytes, and the words that can't be names.
-- The rules are this project's profile.
use Rattle.std.specs.Prelude.{ℕ, Bool, false, not, ◌&&◌, ◌||◌, ◌==◌, nat_le, bytes_eq, List, [], ◌∷◌, length, codes}
use Rattle.std.specs.List.{list_all, list_any}
use Rattle.std.specs.Char.{is_ascii_alphabetic, is_ascii_digit}
use Rattle.sym_base.specs.Limits.{max_name_bytes}

-- The keywords as they are written.
unfoldable pub keyword_texts : List (List ℕ)
keyword_texts =
    codes "enum" ∷ codes "field" ∷ codes "from" ∷ codes "num" ∷ codes "word" ∷ codes "else"
    ∷ codes "group" ∷ codes "state" ∷ codes "int" ∷ codes "nums" ∷ codes "words" ∷ codes "hold"
    ∷ codes "test" ∷ codes "update" ∷ codes "report" ∷ codes "let" ∷ codes "push" ∷ codes "keep"
    ∷ codes "if" ∷ codes "and" ∷ codes "or" ∷ codes "not" ∷ codes "is" ∷ codes "clamp" ∷ []

unfoldable pub is_keyword : List ℕ → Bool
is_keyword text = list_any (λ keyword. bytes_eq keyword text) keyword_texts

-- A letter or `_`.
abbrev pub is_name_start : ℕ → Bool
is_name_start b = is_ascii_alphabetic b || (b == 95)

-- A letter, a digit or `_`.
abbrev pub is_name_part : ℕ → Bool
is_name_part b = is_ascii_alphabetic b || (b == 95) || is_ascii_digit b

-- Whether a text begins with a letter or `_`.
abbrev pub starts_name : List ℕ → Bool
starts_name [] = false
starts_name (b ∷ rest) = is_name_start b

-- A name: a letter or `_`, then letters, digits and `_`, at most 64 bytes, and no keyword.
unfoldable pub is_name : List ℕ → Bool
is_name text =
    starts_name text && list_all is_name_part text && nat_le (length text) max_name_bytes
    && not (is_keyword text)
