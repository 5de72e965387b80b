use Rattle.sym_check.proofs.GroupLaws.{records_of_append, none_of}
use Rattle.sym_check.proofs.laws.groups.records_of_keys_run_on.Goals as goal

pub returns-clause-more : goal.returns-clause-more
returns-clause-more c = records_of_append

pub returns-clause-none : goal.returns-clause-none
returns-clause-none c = none_of
