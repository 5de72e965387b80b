-- Pieces of bytes that have whole rows, and a search for their ends.
use Rattle.std.specs.Prelude.{◌≡◌, ◌≤◌, ◌<◌, ◌+◌, ◌-◌, ℕ, Bool, true, false, List, ◌++◌, length, map, take, drop, slice_index}
use Rattle.std.specs.List.{concat}
use Rattle.sym_rows.specs.Places.{place_after, place_of, row_ends}
use Rattle.sym_rows.specs.Rows.{BeginsLine, EndsInQuotes, EndsOutside, rows_of}
use Rattle.sym_rows.specs.declared.blocks.Ends.{Ends}
use Rattle.sym_rows.specs.declared.place.Place.TheVariants as place
use Rattle.sym_rows.specs.declared.pieces.Pieces.{Pieces}
use Rattle.sym_rows.specs.declared.search.Passed.{Passed}
use Rattle.sym_rows.specs.declared.search.Piece.{Piece}

-- The bytes from one place up to another.
abbrev pub between : List ℕ → ℕ → ℕ → List ℕ
between bytes from end = take (end - from) (drop from bytes)

-- Whether reading bytes ends within quotes.
abbrev pub IsQuoted : Bool → List ℕ → Type 0
IsQuoted true bytes = EndsInQuotes bytes
IsQuoted false bytes = EndsOutside bytes

-- The next piece from a place on. It has the next rows: as many as were asked for, or all that are
-- left. The bytes after it begin with the end of a line, so the next piece begins there. It ends
-- within quotes only where the bytes do.
pub record IsNextPiece (bytes : List ℕ) (from count : ℕ) (found : Piece) : Type 0 where
  pub low : from ≤ found.end
  pub high : found.end ≤ length bytes
  pub rows : rows_of (drop from bytes)
      ≡ rows_of (between bytes from found.end) ++ rows_of (drop found.end bytes)
  pub counted : found.rows ≡ length (rows_of (between bytes from found.end))
  pub most : found.rows ≤ count
  pub full : found.rows < count → found.end ≡ length bytes
  pub begins : BeginsLine (drop found.end bytes)
  pub quoted : IsQuoted found.quoted (between bytes from found.end)
  pub last : found.quoted ≡ true → found.end ≡ length bytes

-- The bytes up to a place are passed over: reading stands there as it says, and so many rows have
-- ended.
pub record IsPassed (bytes : List ℕ) (from count : ℕ) (to : Passed) : Type 0 where
  pub low : from ≤ to.at
  pub high : to.at ≤ length bytes
  pub stands : to.place ≡ place_after place.Between (between bytes from to.at)
  pub rows : to.rows ≡ row_ends place.Between (between bytes from to.at)
  pub few : to.rows < count

-- So many rows end in the bytes after the first one, if these have no quote. Reading stands after
-- each of them as after that byte.
pub record AreEnds (window : List ℕ) (found : Ends) : Type 0 where
  pub few : found.rows ≤ 128
  pub rows : found.quoted ≡ false
      → found.rows ≡ row_ends (place_of (slice_index window 0)) (drop 1 window)
  pub stands : found.quoted ≡ false
      → place_of (slice_index window 128)
      ≡ place_after (place_of (slice_index window 0)) (drop 1 window)

-- The bytes that pieces have left to be read.
abbrev pub pieces_left : Pieces → List ℕ
pieces_left p = p.now.now ++ concat (map (λ piece. piece.now) (drop p.begun p.all.items))
