use Rattle.std.proofs.Common.{rules}
use Rattle.sym_explore.proofs.stores.target_of.Goals as goal

pub returns-clause-fits : goal.returns-clause-fits
returns-clause-fits c = search rules

pub returns-clause-clamps : goal.returns-clause-clamps
returns-clause-clamps c = search rules
