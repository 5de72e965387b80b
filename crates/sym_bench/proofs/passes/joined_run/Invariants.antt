-- The run stands for the chunks so far.
use Rattle.sym_check.specs.Checking.CheckedScripts.{checked_plan}
use Rattle.sym_run.specs.Runs.{IsFromTo, StandsForChunks}
use Rattle.sym_bench.proofs.passes.joined_run.Given as goal

abbrev pub invariant-chunks : goal.invariant-chunks
invariant-chunks l = record {
  ends : IsFromTo 0 l.number l.run;
  stands : StandsForChunks (checked_plan l.checked) l.limit l.chunks l.run;
}
