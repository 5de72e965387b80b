-- The rows of CSV's bytes, and where reading them stands.
use Rattle.std.specs.Prelude.{◌≡◌, ◌≢◌, ◌==◌, ◌||◌, ℕ, Bool, true, false, List, [], ◌∷◌}
use Rattle.std.specs.List.{All}
use Rattle.csv.specs.Machine.{ends_at_end, step}
use Rattle.csv.specs.Reading.{default_config, records, strip_bom}
use Rattle.csv.specs.declared.parser.State.{State}
use Rattle.csv.specs.declared.parser.State.TheVariants as st

-- A row: the bytes of each field.
abbrev pub Row : Type 0
Row = List (List ℕ)

-- The rows that `csv` gives for bytes, none of which is passed over as a byte-order mark: with
-- commas, double quotes and LF, CRLF or CR after a row.
abbrev pub rows_of : List ℕ → List Row
rows_of bytes = records default_config bytes

-- The same after a byte-order mark: what a reader of `csv` gives over the bytes.
abbrev pub marked_rows : List ℕ → List Row
marked_rows bytes = rows_of (strip_bom bytes)

-- The state in which `csv` is after these bytes.
abbrev pub state_after : State → List ℕ → State
state_after s [] = s
state_after s (c ∷ rest) = state_after (step default_config s c).0 rest

-- The state is not within quotes. (`csv`'s defaults have no escapes and no comments.)
abbrev pub IsOutside : State → Type 0
IsOutside st.InQuoted = ⊥
IsOutside st.InEscape = ⊥
IsOutside st.StartRecord = Unit {0}
IsOutside st.StartField = Unit {0}
IsOutside st.InField = Unit {0}
IsOutside st.AfterQuote = Unit {0}
IsOutside st.InComment = ⊥
IsOutside st.AfterCr = Unit {0}

-- Reading the bytes ends outside quotes.
abbrev pub EndsOutside : List ℕ → Type 0
EndsOutside bytes = IsOutside (state_after st.StartRecord bytes)

-- Reading the bytes ends after an opening quote and before the one that closes it.
abbrev pub EndsInQuotes : List ℕ → Type 0
EndsInQuotes bytes = state_after st.StartRecord bytes ≡ st.InQuoted

-- Reading the bytes ends after a row, or before the first.
abbrev pub EndsBetween : List ℕ → Type 0
EndsBetween bytes = ends_at_end (state_after st.StartRecord bytes) ≡ false

abbrev pub HasNoQuote : List ℕ → Type 0
HasNoQuote bytes = All (λ b. b ≢ 34) bytes

-- The byte ends a line: CR or LF.
abbrev pub is_line_end : ℕ → Bool
is_line_end b = (b == 13) || (b == 10)

-- The bytes begin with the end of a line, or there are none.
abbrev pub BeginsLine : List ℕ → Type 0
BeginsLine [] = Unit {0}
BeginsLine (b ∷ rest) = is_line_end b ≡ true

-- Bytes that can be read after others and before others: they begin with the end of the line before
-- their first row, and end outside quotes.
pub record IsPiece (bytes : List ℕ) : Type 0 where
  pub begins : BeginsLine bytes
  pub ends : EndsOutside bytes
