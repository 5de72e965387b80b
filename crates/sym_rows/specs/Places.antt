-- Where reading stands in a row, as far as where rows end, and how each byte goes on from there.
use Rattle.std.specs.Prelude.{◌≡◌, ◌+◌, ℕ, ◌==◌, ◌&&◌, not, Bool, true, false, List, [], ◌∷◌, if◌then◌else◌}
use Rattle.sym_rows.specs.Rows.{is_line_end}
use Rattle.sym_rows.specs.declared.place.Place.{Place}
use Rattle.sym_rows.specs.declared.place.Place.TheVariants as place
use Rattle.sym_rows.specs.declared.place.Step.{Step}

abbrev pub goes : Place → Bool → Step
goes at ends = record { at = at; ends = ends }

-- After a byte outside quotes.
abbrev pub inside : ℕ → Step
inside c =
    if c == 44 then goes place.Start false
    else if is_line_end c then goes place.Between true
    else goes place.Inside false

-- After the first byte of a field.
abbrev pub start : ℕ → Step
start c = if c == 34 then goes place.Quoted false else inside c

-- The place after a byte, and whether the byte ends a row.
abbrev pub next_step : Place → ℕ → Step
next_step place.Between c = if is_line_end c then goes place.Between false else start c
next_step place.Start c = start c
next_step place.Inside c = inside c
next_step place.Quoted c = if c == 34 then goes place.AfterQuote false else goes place.Quoted false
next_step place.AfterQuote c = if c == 34 then goes place.Quoted false else inside c

-- No row is begun.
abbrev pub is_between : Place → Bool
is_between place.Between = true
is_between place.Start = false
is_between place.Inside = false
is_between place.Quoted = false
is_between place.AfterQuote = false

abbrev pub is_quoted : Place → Bool
is_quoted place.Between = false
is_quoted place.Start = false
is_quoted place.Inside = false
is_quoted place.Quoted = true
is_quoted place.AfterQuote = false

-- The place after a byte that is read outside quotes and is none.
abbrev pub place_of : ℕ → Place
place_of c =
    if is_line_end c then place.Between
    else if c == 44 then place.Start
    else place.Inside

-- 1 where a fact holds, else 0.
abbrev pub one_if : Bool → ℕ
one_if b = if b then 1 else 0

-- The place after bytes.
abbrev pub place_after : Place → List ℕ → Place
place_after p [] = p
place_after p (c ∷ rest) = place_after (next_step p c).at rest

-- How many of the bytes end a row.
abbrev pub row_ends : Place → List ℕ → ℕ
row_ends p [] = 0
row_ends p (c ∷ rest) = one_if (next_step p c).ends + row_ends (next_step p c).at rest
