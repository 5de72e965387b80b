-- Behind what stood there come copies of the first literals.
use Rattle.std.proofs.Common.{◌≡◌, ◌++◌, take}
use Rattle.sym_pred.proofs.facts.push_copies.Given as goal

abbrev pub invariant-literals : goal.invariant-literals
invariant-literals l = l.all.items ≡ l.initial.all.items ++ take l.literal-index l.literals
