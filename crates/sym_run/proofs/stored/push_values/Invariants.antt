-- The values so far are those of the list and the first of the others.
use Rattle.std.proofs.Common.{◌≡◌, ◌++◌, take}
use Rattle.sym_run.proofs.stored.push_values.Given as goal

abbrev pub invariant-values : goal.invariant-values
invariant-values l = l.values.items ≡ l.fn.values.items ++ take l.value-index l.more
