-- The facts have the literals of the first ones, and those of the list so far.
use Rattle.sym_pred.proofs.WithLemmas.{AreWithFirst}
use Rattle.sym_pred.proofs.facts.with_all.Given as goal

abbrev pub invariant-literals : goal.invariant-literals
invariant-literals l = AreWithFirst l.initial.facts l.literals l.literal-index l.facts
