-- Parts of a round's chunks, each of which one worker reads.
use Rattle.std.specs.Prelude.{◌≡◌, Bool, List, Result, IfOk}
use Rattle.std.specs.List.{AllZip, flat_map}
use Rattle.sym_base.specs.declared.values.memory.NoMemory.{NoMemory}
use Rattle.sym_base.specs.declared.values.value.Key.{Key}
use Rattle.sym_base.specs.declared.values.state.Outcome.{Outcome}
use Rattle.sym_check.specs.Plan.ScriptPlans.{ScriptPlan}
use Rattle.sym_table.specs.declared.chunk.Chunk.{Chunk}
use Rattle.sym_table.specs.ChunkRecords.{all_records}
use Rattle.sym_shuffle.specs.Settled.{HasDealt}
use Rattle.sym_shuffle.specs.declared.dealt.Dealt.{Dealt}

-- The rows of a part were read beside groups, unless an allocation failed.
abbrev pub IsPartDealt : ScriptPlan → List Bool → List (Key × Outcome) → List Chunk
    → Result Dealt NoMemory → Type 0
IsPartDealt p marks groups part dealt = IfOk dealt (HasDealt p marks groups (all_records p part))

-- The chunks in order, cut into parts, and what the rows of each were read to beside these groups.
pub record AreDealt (p : ScriptPlan) (marks : List Bool) (groups : List (Key × Outcome))
    (chunks : List Chunk) (dealt : List (Result Dealt NoMemory)) : Type 0 where
  pub parts : List (List Chunk)
  pub all : chunks ≡ flat_map (λ part. part) parts
  pub each : AllZip (IsPartDealt p marks groups) parts dealt
