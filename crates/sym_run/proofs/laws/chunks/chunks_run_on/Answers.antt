use Rattle.sym_run.proofs.FoundRecords.{all_records-append, all_records-rows}
use Rattle.sym_run.proofs.laws.chunks.chunks_run_on.Goals as goal

pub returns-clause-more : goal.returns-clause-more
returns-clause-more c = all_records-append

pub returns-clause-rows : goal.returns-clause-rows
returns-clause-rows c = all_records-rows
