-- The run stands for the chunks so far, and is extended by their records.
use Rattle.std.proofs.Common.{◌≡◌, List, Ok, take}
use Rattle.sym_base.specs.declared.values.record.Record.{Record}
use Rattle.sym_check.specs.Checking.CheckedScripts.{checked_plan}
use Rattle.sym_table.specs.ChunkRecords.{all_records}
use Rattle.sym_run.specs.Runs.{AreClosed, GroupsAreExtended, IsFromTo, StandsForChunks}
use Rattle.sym_run.proofs.chunks.of_chunks.Given as goal

abbrev pub invariant-chunks : goal.invariant-chunks
invariant-chunks l = record {
  ends : IsFromTo 0 l.number l.run;
  stands : StandsForChunks (checked_plan l.checked) l.limit l.chunks l.run;
  closed : AreClosed l.run.groups;
  extended : (records : List Record) → all_records (checked_plan l.checked) (take l.number l.chunks) ≡ Ok records → GroupsAreExtended (checked_plan l.checked) l.limit records l.run.groups;
}
