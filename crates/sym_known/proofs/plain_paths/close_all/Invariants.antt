-- The paths so far are closed.
use Rattle.std.proofs.Common.{map}
use Rattle.std.specs.List.{AllZip}
use Rattle.sym_known.specs.Closing.{IsClosed}
use Rattle.sym_known.specs.Placing.{known_in}
use Rattle.sym_known.proofs.plain_paths.close_all.Given as goal

abbrev pub invariant-paths : goal.invariant-paths
invariant-paths l = AllZip IsClosed (map (known_in l.outcomes) l.yielded) l.paths.items
