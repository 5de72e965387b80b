use Rattle.sym_file.proofs.SetBits.{AreBitsBelow}
use Rattle.sym_file.proofs.writer.bits_of.Given as goal

abbrev pub invariant-labels : goal.invariant-labels
invariant-labels l = AreBitsBelow l.set.bits l.label l.bits
