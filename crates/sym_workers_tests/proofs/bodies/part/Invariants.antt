-- The run stands for the chunks of the part so far.
use Rattle.sym_check.specs.Checking.CheckedScripts.{checked_plan}
use Rattle.sym_run.specs.Runs.{IsFromTo, StandsForChunks}
use Rattle.sym_workers_tests.proofs.bodies.part.Given as goal

abbrev pub invariant-chunks : goal.invariant-chunks
invariant-chunks g l = record {
  ends : IsFromTo l.fn.first l.number l.run;
  stands : StandsForChunks (checked_plan l.fn.work.checked) l.fn.work.limit l.fn.work.chunks l.run;
}
