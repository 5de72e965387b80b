use Rattle.sym_check.proofs.GroupLaws.{pass_keys, pass_outcomes}
use Rattle.sym_check.proofs.laws.groups.passes_are_valid.Goals as goal

pub returns-clause-keys : goal.returns-clause-keys
returns-clause-keys c = pass_keys

pub returns-clause-outcomes : goal.returns-clause-outcomes
returns-clause-outcomes c = pass_outcomes
