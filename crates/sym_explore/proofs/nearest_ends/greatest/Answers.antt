use Rattle.std.proofs.Common.{rules}
use Rattle.sym_explore.proofs.nearest_ends.greatest.Goals as goal

pub returns-clause-is : goal.returns-clause-is
returns-clause-is c = search rules
