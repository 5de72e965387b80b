-- The records so far, with all fields.
use Rattle.std.proofs.Common.{◌≡◌, map, take}
use Rattle.sym_run.specs.Keeping.{with_empty_in}
use Rattle.sym_run.proofs.kept.whole.Given as goal

abbrev pub invariant-records : goal.invariant-records
invariant-records l = l.whole ≡ take l.index (map (with_empty_in l.empty) l.stored)
