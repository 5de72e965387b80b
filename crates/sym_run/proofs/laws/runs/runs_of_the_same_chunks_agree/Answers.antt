use Rattle.sym_run.proofs.AppliedRuns.{runs_agree, whole_applied}
use Rattle.sym_run.proofs.laws.runs.runs_of_the_same_chunks_agree.Goals as goal

pub returns-clause-agree : goal.returns-clause-agree
returns-clause-agree c = runs_agree

pub returns-clause-all : goal.returns-clause-all
returns-clause-all c = whole_applied
