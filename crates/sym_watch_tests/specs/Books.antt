-- The book of what an observer was told of. It is there in proofs alone; what is there when the
-- program runs is one word, the number of its entries.
use Rattle.std.specs.Prelude.{◌≡◌, ℕ, ◌==◌, true, List, [], ◌∷◌, ◌++◌, length, MatchBool}
use Rattle.logbook.specs.Pages.{Cell, Step, View, Book, Named}
use Rattle.sym_watch.specs.declared.partial.Partial.{Partial}

-- The rule: the first word is the length of the log. The second word is not used.
pub record IsCounted (cells : List Cell) (log : List Partial) : Type 0 where
  pub words : cells ≡ (length log, true) ∷ (0, true) ∷ []

-- The first word of a book.
abbrev pub length_of : Book → Named
length_of book = record { tracked = true; key = 0; book = book }

-- What a step that appends tells: if the word held the number expected, the log is the one that was
-- seen and the partial.
abbrev pub Appends : Step Partial → View Partial ℕ → ℕ → View Partial ℕ → Type 0
Appends asked before found after =
    MatchBool (found == asked.old) (after.0 ≡ before.0 ++ asked.ask ∷ []) (Unit {0})
