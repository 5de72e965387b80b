-- Which chunks have a row in a trace.
use Rattle.std.specs.Prelude.{◌≡◌, ◌≤◌, ◌<◌, ℕ, ◌+◌, ◌-◌, ◌%◌, List, Some, drop, length, slice_get, take}
use Rattle.std.specs.List.{All}
use Rattle.sym_table.specs.declared.chunk.Chunk.{Chunk}
use Rattle.sym_trace.specs.declared.shown_chunks.ShownPart.{ShownPart}

-- A number of one of the chunk's rows.
pub record IsNumberOf (cut : Chunk) (no : ℕ) : Type 0 where
  pub from : cut.first_no ≤ no
  pub below : no < cut.first_no + length cut.rows

-- `every` divides a number of one of the chunk's rows.
pub record ShowsOne (every : ℕ) (cut : Chunk) : Type 0 where
  pub no : ℕ
  pub is : IsNumberOf cut no
  pub shown : no % every ≡ 0

-- It divides none.
abbrev pub ShowsNone : ℕ → Chunk → Type 0
ShowsNone every cut = (no : ℕ) → IsNumberOf cut no → ¬ (no % every ≡ 0)

-- It divides one of the chunk at this place.
pub record ShowsOneAt (every : ℕ) (cuts : List Chunk) (at : ℕ) : Type 0 where
  pub cut : Chunk
  pub is : slice_get cuts at ≡ Some cut
  pub shows : ShowsOne every cut

-- The chunks from the first one with a row to the last: there is no row before them and none after
-- them, and if there are any, the first and the last of them have one.
pub record IsShownPart (every : ℕ) (cuts : List Chunk) (part : ShownPart) : Type 0 where
  pub some : part.first ≤ part.end
  pub within : part.end ≤ length cuts
  pub before : All (ShowsNone every) (take part.first cuts)
  pub after : All (ShowsNone every) (drop part.end cuts)
  pub first : part.first < part.end → ShowsOneAt every cuts part.first
  pub last : part.first < part.end → ShowsOneAt every cuts (part.end - 1)
