-- Rows that are kept as the bytes that they are read from.
use Rattle.std.specs.Prelude.{◌≡◌, ◌≤◌, ℕ, Bool, true, false, List, [], length, drop, Option, Some}
use Rattle.sym_rows.specs.Rows.{BeginsLine, IsPiece, rows_of}
use Rattle.sym_table.specs.Reading.{Row}

-- The bytes can be read between others, and have so many rows.
pub record AreRaw (bytes : List ℕ) (count : ℕ) : Type 0 where
  pub piece : IsPiece bytes
  pub counted : count ≡ length (rows_of bytes)

-- The bytes can be read between others, and have the rows of those that they were copied from.
pub record IsClosed (bytes raw : List ℕ) : Type 0 where
  pub piece : IsPiece raw
  pub rows : rows_of raw ≡ rows_of bytes

-- These are the rows of the bytes, which can be read between others.
pub record IsRaw (bytes : List ℕ) (rows : List Row) : Type 0 where
  pub piece : IsPiece bytes
  pub rows_are : rows_of bytes ≡ rows

-- The rows that are left: those that a reader has, or those of the bytes that are left.
abbrev pub source_rows : Bool → Option (List Row) → List ℕ → Option (List Row)
source_rows true reader bytes = reader
source_rows false reader bytes = Some (rows_of bytes)

-- The bytes that are left begin with the end of a line.
pub record IsSource (bytes : List ℕ) (at : ℕ) : Type 0 where
  pub within : at ≤ length bytes
  pub begins : BeginsLine (drop at bytes)
