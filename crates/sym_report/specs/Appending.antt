-- What the code appends of a line, piece by piece.
use Rattle.std.specs.Prelude.{ℕ, Bool, true, false, List, [], ◌∷◌, ◌++◌, Option, Some, None}
use Rattle.sym_report.specs.declared.shown.WordStyle.{WordStyle}
use Rattle.sym_report.specs.declared.shown.WordStyle.TheVariants as style
use Rattle.sym_report.specs.Tables.{shown_word}
use Rattle.sym_report.specs.Csvs.{plain_word}
use Rattle.sym_report.specs.Pairs.{quoted_word}

-- A separator, where something stands before it.
abbrev pub lead : List ℕ → Bool → List ℕ
lead separator true = separator
lead separator false = []

-- Texts one after another, each after a separator; the first one only where something stands before
-- it.
abbrev pub continued : List ℕ → Bool → List (List ℕ) → List ℕ
continued separator started [] = []
continued separator started (x ∷ rest) =
    lead separator started ++ (x ++ continued separator true rest)

-- The text of a word in each style.
abbrev pub word_in : WordStyle → List ℕ → List ℕ
word_in style.Shown = shown_word
word_in style.Plain = plain_word
word_in style.Quoted = quoted_word

-- At most one item, as a list.
abbrev pub listed : {A : Type 0} → Option A → List A
listed None = []
listed (Some x) = x ∷ []
