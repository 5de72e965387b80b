use Rattle.sym_scan.proofs.Standing.{trace_more, trace_part}
use Rattle.sym_scan.proofs.laws.traces_run_on.Goals as goal

pub returns-clause-more : goal.returns-clause-more
returns-clause-more c = trace_more

pub returns-clause-part : goal.returns-clause-part
returns-clause-part c = trace_part
