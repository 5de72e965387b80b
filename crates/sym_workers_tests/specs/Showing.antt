-- Rows as a test's gate shows them.
use Rattle.std.specs.Prelude.{[], ◌∷◌}
use Rattle.sym_table.specs.Reading.{Row}

-- The row of the one field `b`.
abbrev pub row_b : Row
row_b = (98 ∷ []) ∷ []

-- Every row as that one.
abbrev pub shows_b : Row → Row
shows_b row = row_b
