-- The first values are those of the other list with the empty word.
use Rattle.std.proofs.Common.{◌≡◌, ◌+◌, Some, length, take}
use Rattle.sym_run.specs.Keeping.{with_empty}
use Rattle.sym_run.proofs.stored.copy_around.Given as goal

abbrev pub invariant-values : goal.invariant-values
invariant-values l = record {
  long : length l.values ≡ length l.from + 1;
  done : take l.index l.values ≡ take l.index (with_empty (Some l.place) l.from);
}
