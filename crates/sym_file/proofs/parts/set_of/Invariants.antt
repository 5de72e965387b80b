use Rattle.sym_file.proofs.SetBits.{HasLabelsBelow}
use Rattle.sym_file.proofs.parts.set_of.Given as goal

abbrev pub invariant-labels : goal.invariant-labels
invariant-labels l = HasLabelsBelow l.fn.number l.label l.set
