-- The run of a round.
use Rattle.std.specs.Prelude.{ℕ, List, length}
use Rattle.sym_check.specs.Plan.ScriptPlans.{ScriptPlan}
use Rattle.sym_table.specs.declared.chunk.Chunk.{Chunk}
use Rattle.sym_run.specs.declared.runs.Run.{Run}
use Rattle.sym_run.specs.Runs.{IsFromTo, StandsForChunks}

-- A run stands for all chunks of a round, from the first one on.
pub record StandsForAll (p : ScriptPlan) (limit : ℕ) (chunks : List Chunk) (run : Run)
    : Type 0 where
  pub ends : IsFromTo 0 (length chunks) run
  pub stands : StandsForChunks p limit chunks run
