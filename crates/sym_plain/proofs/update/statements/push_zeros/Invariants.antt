-- So many zeros are pushed.
use Rattle.std.proofs.Common.{◌≡◌, ◌++◌, replicate, pos}
use Rattle.sym_base.specs.declared.values.value.Value.TheVariants as value
use Rattle.sym_plain.proofs.update.statements.push_zeros.Given as goal

abbrev pub invariant-zeros : goal.invariant-zeros
invariant-zeros l = l.locals ≡ l.fn.locals ++ replicate l.counter (value.Num (pos 0))
