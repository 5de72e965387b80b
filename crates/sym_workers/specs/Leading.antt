-- The runs of a round's stretches, which lead groups on one after the other.
use Rattle.std.specs.Prelude.{◌<◌, ℕ, ◌+◌, List, length, IfOk, Result, slice_index_or, slice_range}
use Rattle.sym_base.specs.declared.values.memory.NoMemory.{NoMemory}
use Rattle.sym_base.specs.declared.values.record.Record.{Record}
use Rattle.sym_check.specs.Plan.ScriptPlans.{ScriptPlan}
use Rattle.sym_table.specs.declared.bad.Bad.{Bad}
use Rattle.sym_table.specs.declared.chunk.Chunk.{Chunk}
use Rattle.sym_table.specs.ChunkRecords.{all_records}
use Rattle.sym_run.specs.declared.runs.Run.{Run}
use Rattle.sym_files.specs.declared.rounds.Work.{Work}
use Rattle.sym_workers.specs.Pieces.{StandsBetween}

-- The records of those chunks that a run's numbers name, or the first of their rows that is none.
abbrev pub run_records : ScriptPlan → List Chunk → Run → Result (List Record) Bad
run_records p chunks run = all_records p (slice_range chunks run.lo run.hi)

-- The runs of the stretches of a round, in order, where stretches have so many chunks each. One may
-- be missing, where an allocation failed.
abbrev pub AreRunsOf : Work → ℕ → List (Result Run NoMemory) → Type 0
AreRunsOf work each runs = (number : ℕ) (d : Result Run NoMemory) → number < length runs
    → IfOk (slice_index_or runs number d) (StandsBetween work each number (number + 1))
