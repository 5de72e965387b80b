-- Cutting a file into chunks of rows.
use Rattle.std.specs.Prelude.{◌≡◌, ◌≤◌, ◌<◌, ℕ, ◌+◌, ◌^◌, IfSome, ◌++◌, ◌∷◌, Bool, true, false, List, [], length, Option, Some, None, Result, Ok, Err}
use Rattle.sym_base.specs.declared.limits.TheConstants as limit
use Rattle.sym_base.specs.declared.values.memory.NoMemory.{NoMemory}
use Rattle.sym_check.specs.declared.plan.script.FieldPlan.{FieldPlan}
use Rattle.sym_table.specs.declared.chunk.Chunk.{Chunk}
use Rattle.sym_table.specs.declared.header.Header.{Header}
use Rattle.sym_table.specs.declared.header.HeadFault.{HeadFault}
use Rattle.sym_table.specs.declared.header.HeadErr.{HeadErr}
use Rattle.sym_table.specs.declared.header.HeadErr.TheVariants as head_err
use Rattle.sym_table.specs.Headers.{columns_of}
use Rattle.sym_table.specs.Reading.{Row}

-- What a cutter stands at: the rows that are left, none after a refusal of memory; the number of
-- the next row; how many rows a full chunk has.
pub record Cutting : Type 0 where
  pub left : Option (List Row)
  pub header : Header
  pub next_no : ℕ
  pub chunk : ℕ

-- What opening a file of these rows comes to. A file of no rows has no header, and a cutter of no
-- chunks.
abbrev pub Opens : List FieldPlan → List Row → Result Cutting HeadErr → Type 0
Opens fields [] (Ok c) = c.left ≡ Some []
Opens fields [] (Err (head_err.Fault why)) = ⊥
Opens fields [] (Err head_err.NoMemory) = Unit {0}
Opens fields (header ∷ rest) (Ok c) =
    (columns_of header 0 fields ≡ Ok c.header.places)
    × (c.header.columns ≡ length header)
    × (c.left ≡ Some rest)
Opens fields (header ∷ rest) (Err (head_err.Fault why)) = columns_of header 0 fields ≡ Err why
Opens fields (header ∷ rest) (Err head_err.NoMemory) = Unit {0}

-- The chunk has the next rows: as many as a full one, or all that are left.
pub record IsNext (old new : Cutting) (cut : Chunk) : Type 0 where
  pub rest : List Row
  pub had : old.left ≡ Some (cut.rows ++ rest)
  pub has : new.left ≡ Some rest
  pub some : 1 ≤ length cut.rows
  pub most : length cut.rows ≤ old.chunk
  pub full : length cut.rows < old.chunk → rest ≡ []
  pub header_is : cut.header ≡ old.header
  pub first : cut.first_no ≡ old.next_no
  pub next : new.next_no ≡ old.next_no + length cut.rows

-- The next chunk, or none where no row is left. A cutter that was refused memory stays so.
abbrev pub Cuts : Cutting → Cutting → Result (Option Chunk) NoMemory → Type 0
Cuts old new (Ok None) =
    (old.left ≡ Some []) × (new.left ≡ Some []) × (new.next_no ≡ old.next_no)
Cuts old new (Ok (Some cut)) = IsNext old new cut
Cuts old new (Err e) = new.left ≡ None

-- The same of one row.
abbrev pub Takes : Cutting → Cutting → Row → Result Bool NoMemory → Type 0
Takes old new row (Ok true) =
    (rest : List Row)
    × (old.left ≡ Some (row ∷ rest))
    × (new.left ≡ Some rest)
    × (new.next_no ≡ old.next_no + 1)
Takes old new row (Ok false) =
    (old.left ≡ Some []) × (new.left ≡ Some []) × (new.next_no ≡ old.next_no)
Takes old new row (Err e) = new.left ≡ None

-- The columns, or the first fault; where memory is out, anything.
abbrev pub Locates : Result (List ℕ) HeadErr → Result (List ℕ) HeadFault → Type 0
Locates (Ok places) found = found ≡ Ok places
Locates (Err (head_err.Fault why)) found = found ≡ Err why
Locates (Err head_err.NoMemory) found = Unit {0}

-- A full chunk has a row, and no more than a chunk may have; the numbers of the rows stay below
-- 2^63.
pub record IsCutting (left : Option (List Row)) (next_no chunk : ℕ) : Type 0 where
  pub some : 1 ≤ chunk
  pub most : chunk ≤ limit.CHUNK_MAX
  pub room : IfSome left (λ rows. next_no + length rows ≤ 2 ^ 63)

-- Rows that are taken from a reader: as many as asked for, or all that are left.
pub record AreTaken (count : ℕ) (old new : Option (List Row)) (rows : List Row) : Type 0 where
  pub rest : List Row
  pub had : old ≡ Some (rows ++ rest)
  pub has : new ≡ Some rest
  pub most : length rows ≤ count
  pub full : length rows < count → rest ≡ []

abbrev pub TakesRows : ℕ → Option (List Row) → Option (List Row) → Result (List Row) NoMemory
    → Type 0
TakesRows count old new (Ok rows) = AreTaken count old new rows
TakesRows count old new (Err e) = new ≡ None

-- The next row is read and added to rows; or there is none.
abbrev pub ReadsOnto : Option (List Row) → Option (List Row) → List Row → List Row
    → Result Bool NoMemory → Type 0
ReadsOnto old new before after (Ok true) =
    (row : Row)
    × (left : List Row)
    × (old ≡ Some (row ∷ left))
    × (new ≡ Some left)
    × (after ≡ before ++ row ∷ [])
ReadsOnto old new before after (Ok false) =
    (old ≡ Some []) × (new ≡ Some []) × (after ≡ before)
ReadsOnto old new before after (Err e) = new ≡ None

-- The header of the first row, or its first fault; of no rows, any.
abbrev pub HeadsBy : List FieldPlan → List Row → Option (List Row) → Result Header HeadErr → Type 0
HeadsBy fields [] new (Ok h) = new ≡ Some []
HeadsBy fields [] new (Err (head_err.Fault why)) = ⊥
HeadsBy fields [] new (Err head_err.NoMemory) = Unit {0}
HeadsBy fields (header ∷ rest) new (Ok h) =
    (columns_of header 0 fields ≡ Ok h.places) × (h.columns ≡ length header) × (new ≡ Some rest)
HeadsBy fields (header ∷ rest) new (Err (head_err.Fault why)) = columns_of header 0 fields ≡ Err why
HeadsBy fields (header ∷ rest) new (Err head_err.NoMemory) = Unit {0}
