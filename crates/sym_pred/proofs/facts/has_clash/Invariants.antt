-- None of the first literals stands in the facts with the other outcome.
use Rattle.std.proofs.Common.{ℕ, ◌<◌, get_or, not}
use Rattle.sym_pred.specs.Literals.{atom_of}
use Rattle.sym_pred.specs.Meaning.{Stands}
use Rattle.sym_pred.specs.declared.literal.Literal.{Literal}
use Rattle.sym_pred.proofs.facts.has_clash.Given as goal

abbrev pub invariant-literals : goal.invariant-literals
invariant-literals l = (k : ℕ) (d : Literal) → k < l.literal-index → Stands l.other (atom_of (get_or l.literals k d)) (not (get_or l.literals k d).outcome) → ⊥
