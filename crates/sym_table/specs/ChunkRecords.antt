-- The records of chunks of rows.
use Rattle.std.specs.Prelude.{◌≡◌, ℕ, ◌+◌, List, [], ◌∷◌, ◌++◌, length, Result, Ok}
use Rattle.sym_base.specs.declared.values.record.Record.{Record}
use Rattle.sym_check.specs.Plan.ScriptPlans.{ScriptPlan}
use Rattle.sym_table.specs.declared.bad.Bad.{Bad}
use Rattle.sym_table.specs.declared.chunk.Chunk.{Chunk}
use Rattle.sym_table.specs.Reading.{Row}
use Rattle.sym_table.specs.RowRecords.{records_or_bad, in_turn}

-- The records of a chunk's rows, or the first row that is none.
abbrev pub chunk_records : ScriptPlan → Chunk → Result (List Record) Bad
chunk_records p cut = records_or_bad p cut.header cut.first_no cut.rows

-- The records of chunks in order, or the first row of them that is none.
abbrev pub all_records : ScriptPlan → List Chunk → Result (List Record) Bad
all_records p [] = Ok []
all_records p (cut ∷ cuts) = in_turn (chunk_records p cut) (all_records p cuts)

-- The rows of chunks in order.
abbrev pub all_rows : List Chunk → List Row
all_rows [] = []
all_rows (cut ∷ cuts) = cut.rows ++ all_rows cuts

-- The rows of the chunks are numbered from n on, each chunk's after those of the one before it.
abbrev pub RunOn : ℕ → List Chunk → Type 0
RunOn n [] = Unit {0}
RunOn n (cut ∷ cuts) = (cut.first_no ≡ n) × RunOn (n + length cut.rows) cuts
