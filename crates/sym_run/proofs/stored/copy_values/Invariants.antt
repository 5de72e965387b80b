-- The first values are those of the other list.
use Rattle.std.proofs.Common.{◌≡◌, length, take}
use Rattle.sym_run.proofs.stored.copy_values.Given as goal

abbrev pub invariant-values : goal.invariant-values
invariant-values l = record {
  long : length l.values ≡ length l.from;
  done : take l.index l.values ≡ take l.index l.from;
}
