use Rattle.sym_check.proofs.Keys.{key-Decides, value-Decides}
use Rattle.sym_check.proofs.laws.groups.keys_and_values_are_told_apart.Goals as goal

pub returns-clause-keys : goal.returns-clause-keys
returns-clause-keys c = key-Decides

pub returns-clause-values : goal.returns-clause-values
returns-clause-values c = value-Decides
