-- What the parts of reading files come to.
use Rattle.std.specs.Prelude.{◌≡◌, ◌≤◌, ◌<◌, ℕ, ◌+◌, ◌*◌, List, [], ◌++◌, length, map, Option, Some, IfSome, Result, Ok, Err}
use Rattle.std.specs.List.{All, flat_map}
use Rattle.std.specs.Option.{unwrap_or}
use Rattle.sym_base.specs.Counts.{Rose}
use Rattle.sym_base.specs.declared.limits.TheConstants as limit
use Rattle.sym_base.specs.declared.values.record.Record.{Record}
use Rattle.sym_check.specs.declared.plan.script.FieldPlan.{FieldPlan}
use Rattle.sym_check.specs.Plan.ScriptPlans.{ScriptPlan}
use Rattle.sym_table.specs.declared.bad.Bad.{Bad}
use Rattle.sym_table.specs.declared.chunk.Chunk.{Chunk}
use Rattle.sym_table.specs.Cutting.{Cutting, Opens}
use Rattle.sym_table.specs.ChunkRecords.{RunOn}
use Rattle.sym_table.specs.Reading.{Row}
use Rattle.sym_table.specs.Rows.{FitsChunk, FitsHeader}
use Rattle.sym_table.specs.RowRecords.{records_or_bad}
use Rattle.sym_files.specs.declared.error.PassErr.{PassErr}
use Rattle.sym_files.specs.declared.error.PassErr.TheVariants as pass_err
use Rattle.sym_files.specs.declared.rounds.Took.{Took}
use Rattle.sym_files.specs.declared.rounds.Took.TheVariants as took
use Rattle.sym_files.specs.FileRecords.{or_else, shown_rows, row_records}
use Rattle.sym_files.specs.Rounds.{Extends}

-- Why a file wasn't read: a read failed, or the file has more than `max` bytes.
abbrev pub IsUnread : ℕ → ℕ → Option (List ℕ) → ℕ → ℕ → PassErr → Type 0
IsUnread max file told before after (pass_err.Read n) = (n ≡ file) × Rose before after
IsUnread max file told before after (pass_err.TooLarge n) =
    (n ≡ file) × IfSome told (λ bytes. max < length bytes)
IsUnread max file told before after (pass_err.Head n fault) = ⊥
IsUnread max file told before after (pass_err.Bad n bad) = ⊥
IsUnread max file told before after pass_err.NoMemory = Unit {0}

-- The file's header was read; its records are those of the rows that are left, as they are shown.
pub record IsOpened (p : ScriptPlan) (shown : Row → Row) (file first : ℕ) (rows : List Row)
    (c : Cutting) : Type 0 where
  pub left : List Row
  pub has : c.left ≡ Some left
  pub next : c.next_no ≡ first
  pub fits : FitsHeader p.fields c.header
  pub reads : row_records p file first (shown_rows shown rows)
      ≡ or_else (pass_err.Bad file) (records_or_bad p c.header first (map shown left))
  pub opens : Opens p.fields rows (Ok c)

-- The file is opened, or its header has a fault.
abbrev pub OpensFile : ScriptPlan → (Row → Row) → ℕ → ℕ → List Row → Result Cutting PassErr
    → Type 0
OpensFile p shown file first rows (Ok c) = IsOpened p shown file first rows c
OpensFile p shown file first rows (Err (pass_err.Read n)) = ⊥
OpensFile p shown file first rows (Err (pass_err.TooLarge n)) = ⊥
OpensFile p shown file first rows (Err (pass_err.Head n fault)) =
    row_records p file first (shown_rows shown rows) ≡ Err (pass_err.Head n fault)
OpensFile p shown file first rows (Err (pass_err.Bad n bad)) = ⊥
OpensFile p shown file first rows (Err pass_err.NoMemory) = Unit {0}

-- The rows that a cutter has left; of one that was refused memory, none.
abbrev pub rows_left : Cutting → List Row
rows_left c = unwrap_or c.left []

-- The rows of chunks, in order.
abbrev pub rows_of : List Chunk → List Row
rows_of cuts = flat_map (λ (cut : Chunk). cut.rows) cuts

-- Chunks of one row or more were cut off one after the other, each with the header of the file.
pub record AreCut (old new : Cutting) (cuts : List Chunk) : Type 0 where
  pub rest : List Row
  pub had : old.left ≡ Some (rows_of cuts ++ rest)
  pub has : new.left ≡ Some rest
  pub filled : All (λ (cut : Chunk). 1 ≤ length cut.rows) cuts
  pub headers : All (λ (cut : Chunk). cut.header ≡ old.header) cuts
  pub numbers : RunOn old.next_no cuts
  pub next : new.next_no ≡ old.next_no + length (rows_of cuts)

-- How many rows a full round has, by those of a full chunk.
abbrev pub full_round : ℕ → ℕ
full_round chunk = limit.CHUNKS_MAX * chunk

-- The next round of a file was cut off: a full one, or what was left. It has no chunk only where no
-- row was left. Its chunks fit each script that the header fits.
pub record CutsRound (old new : Cutting) (cuts : List Chunk) : Type 0 where
  pub cut : AreCut old new cuts
  pub most : length cuts ≤ limit.CHUNKS_MAX
  pub ended : cuts ≡ [] → old.left ≡ Some []
  pub fit : (fields : List FieldPlan) → FitsHeader fields old.header
      → All (FitsChunk fields) cuts
  pub header : new.header ≡ old.header
  pub chunk : new.chunk ≡ old.chunk
  pub rows : length (rows_of cuts) ≤ full_round old.chunk
  pub full : length (rows_of cuts) < full_round old.chunk → new.left ≡ Some []

-- A fact of a round whose records were taken.
abbrev pub IfTaken : Took → Type 0 → Type 0
IfTaken took.Done fact = fact
IfTaken (took.Bad bad) fact = Unit {0}

-- The rows' records are taken, and the next number runs on.
pub record AreTaken {S : Type 0} (stands : S → List Record → Type 0)
    (read : Result (List Record) Bad) (first next : ℕ) (old new : S) : Type 0 where
  pub records : List Record
  pub are : read ≡ Ok records
  pub next_is : next ≡ first + length records
  pub extends : Extends stands old new records

-- The rows' records are taken, or a row is none.
abbrev pub TakesRows : {S : Type 0} → (S → List Record → Type 0) → Result (List Record) Bad
    → ℕ → ℕ → S → S → Took → Type 0
TakesRows stands read first next old new took.Done = AreTaken stands read first next old new
TakesRows stands read first next old new (took.Bad bad) = read ≡ Err bad

-- The file's records are taken, and the next number runs on.
pub record IsTaken {S : Type 0} (stands : S → List Record → Type 0)
    (read : Result (List Record) PassErr) (first next : ℕ) (old new : S) : Type 0 where
  pub records : List Record
  pub are : read ≡ Ok records
  pub next_is : next ≡ first + length records
  pub extends : Extends stands old new records

-- The file is taken, or has a problem.
abbrev pub TakesFile : {S A : Type 0} → (S → List Record → Type 0)
    → Result (List Record) PassErr → ℕ → ℕ → S → S → Result A PassErr → Type 0
TakesFile stands read first next old new (Ok x) = IsTaken stands read first next old new
TakesFile stands read first next old new (Err (pass_err.Read n)) = ⊥
TakesFile stands read first next old new (Err (pass_err.TooLarge n)) = ⊥
TakesFile stands read first next old new (Err (pass_err.Head n fault)) =
    read ≡ Err (pass_err.Head n fault)
TakesFile stands read first next old new (Err (pass_err.Bad n bad)) =
    read ≡ Err (pass_err.Bad n bad)
TakesFile stands read first next old new (Err pass_err.NoMemory) = Unit {0}
