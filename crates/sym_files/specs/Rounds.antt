-- Rounds: the chunks that are worked on at once, and what takes them.
use Rattle.std.specs.Prelude.{◌≡◌, ◌≤◌, ℕ, List, ◌++◌, length, map, Result, Ok, Err}
use Rattle.std.specs.List.{All}
use Rattle.sym_base.specs.declared.limits.TheConstants as limit
use Rattle.sym_base.specs.declared.values.record.Record.{Record}
use Rattle.sym_check.specs.declared.plan.script.FieldPlan.{FieldPlan}
use Rattle.sym_check.specs.Plan.ScriptPlans.{ScriptPlan}
use Rattle.sym_table.specs.declared.bad.Bad.{Bad}
use Rattle.sym_table.specs.declared.chunk.Chunk.{Chunk}
use Rattle.sym_table.specs.ChunkRecords.{RunOn, all_records}
use Rattle.sym_table.specs.Reading.{Row}
use Rattle.sym_table.specs.Rows.{FitsChunk}
use Rattle.sym_files.specs.declared.options.TheConstants as own
use Rattle.sym_files.specs.declared.rounds.Took.{Took}
use Rattle.sym_files.specs.declared.rounds.Took.TheVariants as took

-- From one chunk to as many as a round may have, which fit a script with these fields, and whose
-- rows are numbered on.
pub record IsRound (fields : List FieldPlan) (chunks : List Chunk) : Type 0 where
  pub some : 1 ≤ length chunks
  pub most : length chunks ≤ limit.CHUNKS_MAX
  pub fit : All (FitsChunk fields) chunks
  pub first : ℕ
  pub numbers : RunOn first chunks

-- A path limit in its range.
pub record IsLimit (limit : ℕ) : Type 0 where
  pub some : 1 ≤ limit
  pub most : limit ≤ own.LIMIT_MAX

-- A number of workers in its range.
pub record AreWorkers (workers : ℕ) : Type 0 where
  pub some : 1 ≤ workers
  pub most : workers ≤ limit.WORKERS_MAX

-- A chunk with each row as it is shown.
abbrev pub shown_chunk : (Row → Row) → Chunk → Chunk
shown_chunk shown cut = record cut { rows = map shown cut.rows }

-- Chunks with each row as it is shown.
abbrev pub shown_chunks : (Row → Row) → List Chunk → List Chunk
shown_chunks shown chunks = map (shown_chunk shown) chunks

-- The records of a round's rows as they are shown, or the first row of them that is none.
abbrev pub round_records : ScriptPlan → (Row → Row) → List Chunk → Result (List Record) Bad
round_records p shown chunks = all_records p (shown_chunks shown chunks)

-- For which records a value stands, by a script and a path limit.
abbrev pub stands_by : {S : Type 0} → (S → ScriptPlan → ℕ → List Record → Type 0) → ScriptPlan → ℕ
    → S → List Record → Type 0
stands_by stands p limit x records = stands x p limit records

-- The same where no path limit matters.
abbrev pub stands_in : {S : Type 0} → (S → ScriptPlan → List Record → Type 0) → ScriptPlan → S
    → List Record → Type 0
stands_in stands p x records = stands x p records

-- Where the old value stands for records, the new one stands for these and the ones that follow.
abbrev pub Extends : {S : Type 0} → (S → List Record → Type 0) → S → S → List Record → Type 0
Extends stands old new records =
    (before : List Record) → stands old before → stands new (before ++ records)

-- The records were taken, or a row is none. `read` is what the rows are read as.
abbrev pub Takes : {S : Type 0} → (S → List Record → Type 0) → Result (List Record) Bad → S → S
    → Took → Type 0
Takes stands read old new took.Done =
    (records : List Record) × (read ≡ Ok records) × Extends stands old new records
Takes stands read old new (took.Bad bad) = read ≡ Err bad
