use Rattle.std.proofs.Common.{rules}
use Rattle.sym_explore.proofs.ranges.range_known.Goals as goal

pub returns-in-Some : goal.returns-in-Some
returns-in-Some c = search rules
