-- The parts of a round, their runs, and how groups stand before each of them.
use Rattle.std.specs.Prelude.{◌≡◌, ◌≤◌, ℕ, ◌+◌, List, [], ◌∷◌, length, Result, Ok, Err, slice_range}
use Rattle.std.specs.List.{All, flat_map}
use Rattle.sym_base.specs.declared.values.value.Key.{Key}
use Rattle.sym_base.specs.declared.values.record.Record.{Record}
use Rattle.sym_base.specs.declared.values.state.Outcome.{Outcome}
use Rattle.sym_check.specs.Meaning.Groups.{keys}
use Rattle.sym_check.specs.Plan.ScriptPlans.{ScriptPlan}
use Rattle.sym_plain.specs.Pairs.{after_records}
use Rattle.sym_table.specs.declared.bad.Bad.{Bad as BadRow}
use Rattle.sym_table.specs.declared.chunk.Chunk.{Chunk}
use Rattle.sym_table.specs.ChunkRecords.{all_records}
use Rattle.sym_run.specs.Runs.{IsFromTo, StandsForChunks}
use Rattle.sym_scan.specs.declared.parts.Part.{Part}
use Rattle.sym_scan.specs.declared.replays.Replayed.{Replayed}
use Rattle.sym_scan.specs.declared.replays.Replayed.TheVariants.{Rows, Bad}
use Rattle.sym_scan.specs.declared.rows.TraceRow.{TraceRow}
use Rattle.sym_scan.specs.declared.part_starts.PartRun.{PartRun}
use Rattle.sym_scan.specs.declared.part_starts.PartStarts.{PartStarts}
use Rattle.sym_scan.specs.declared.part_starts.Started.{Started}
use Rattle.sym_scan.specs.declared.part_starts.Started.TheVariants as started
use Rattle.sym_scan.specs.declared.part_starts.AllStarted.{AllStarted}
use Rattle.sym_scan.specs.declared.part_starts.AllStarted.TheVariants as all_started
use Rattle.sym_scan.specs.Traces.{from_groups, rows_after}
use Rattle.sym_scan.specs.Replays.{replayed_to, starts_of}

-- The chunks of a part.
abbrev pub part_chunks : List Chunk → Part → List Chunk
part_chunks chunks part = slice_range chunks part.first (part.first + part.count)

-- A part of so many chunks has one of them or more.
pub record IsPart (chunks : ℕ) (part : Part) : Type 0 where
  pub some : 1 ≤ part.count
  pub within : part.first + part.count ≤ chunks

-- Parts one after the other, each of one chunk or more, from one place up to another.
abbrev pub AreParts : ℕ → ℕ → List Part → Type 0
AreParts from to [] = from ≡ to
AreParts from to (part ∷ rest) =
    (part.first ≡ from) × (1 ≤ part.count) × AreParts (from + part.count) to rest

-- A run stands for the chunks of its part.
pub record IsRun (p : ScriptPlan) (limit : ℕ) (chunks : List Chunk) (ran : PartRun) : Type 0 where
  pub part : IsPart (length chunks) ran.part
  pub ends : IsFromTo 0 (length (part_chunks chunks ran.part)) ran.run
  pub stands : StandsForChunks p limit (part_chunks chunks ran.part) ran.run

-- The run of this part.
abbrev pub IsRunOf : ScriptPlan → ℕ → List Chunk → Part → PartRun → Type 0
IsRunOf p limit chunks part ran = (ran.part ≡ part) × IsRun p limit chunks ran

-- The runs of parts one after the other, from one place up to another.
abbrev pub AreRuns : ScriptPlan → ℕ → List Chunk → ℕ → ℕ → List PartRun → Type 0
AreRuns p limit chunks from to [] = from ≡ to
AreRuns p limit chunks from to (ran ∷ rest) =
    (ran.part.first ≡ from) × IsRun p limit chunks ran
    × AreRuns p limit chunks (from + ran.part.count) to rest

-- The starts of the keys of records are taken, and then the groups are led on by the records. Or a
-- row is no record.
abbrev pub StartsFrom : ScriptPlan → Result (List Record) BadRow → List (Key × Outcome) → Started
    → List (Key × Outcome) → Type 0
StartsFrom p (Ok records) old (started.From starts) new =
    (starts ≡ starts_of old (keys p records)) × (new ≡ after_records p records old)
StartsFrom p (Ok records) old (started.Bad bad) new = ⊥
StartsFrom p (Err first) old (started.From starts) new = ⊥
StartsFrom p (Err first) old (started.Bad bad) new = bad ≡ first

-- A part with starts is one of the chunks, and its rows are all records.
pub record IsReady (p : ScriptPlan) (chunks : List Chunk) (ready : PartStarts) : Type 0 where
  pub within : ready.part.first + ready.part.count ≤ length chunks
  pub records : List Record
  pub are : all_records p (part_chunks chunks ready.part) ≡ Ok records

-- The rows of a replay; none where a row is no record.
abbrev pub replayed_rows : Replayed → List TraceRow
replayed_rows (Rows rows) = rows
replayed_rows (Bad bad) = []

-- The rows of a part from its starts.
abbrev pub part_rows : ScriptPlan → ℕ → List Chunk → PartStarts → List TraceRow
part_rows p every chunks ready =
    replayed_rows (replayed_to p every ready.starts (all_records p (part_chunks chunks ready.part)))

-- Each part has its starts, from which the rows of all parts are those of the chunks, and the groups
-- are led on by all records. Or a row is no record.
abbrev pub StartsAll : ScriptPlan → ℕ → List Chunk → Result (List Record) BadRow
    → List (Key × Outcome) → AllStarted → List (Key × Outcome) → Type 0
StartsAll p every chunks (Ok records) old (all_started.From parts) new =
    All (IsReady p chunks) parts.items
    × (flat_map (part_rows p every chunks) parts.items
    ≡ rows_after p every (from_groups p old) [] records)
    × (new ≡ after_records p records old)
StartsAll p every chunks (Ok records) old (all_started.Bad bad) new = ⊥
StartsAll p every chunks (Err first) old (all_started.From parts) new = ⊥
StartsAll p every chunks (Err first) old (all_started.Bad bad) new = bad ≡ first
