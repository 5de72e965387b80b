-- The literals are those of the facts and those needed of the copies so far.
use Rattle.std.proofs.Common.{◌↔◌, ◌⊎◌, Bool}
use Rattle.sym_pred.specs.Facts.{Atom}
use Rattle.sym_pred.specs.Meaning.{Stands}
use Rattle.sym_path.specs.Left.{NeededBelow}
use Rattle.sym_path.proofs.succession.facts_left.Given as goal

abbrev pub invariant-cells : goal.invariant-cells
invariant-cells l = (atom : Atom) (outcome : Bool) → Stands l.facts atom outcome ↔ (Stands l.initial.facts atom outcome ⊎ NeededBelow l.forms l.needs l.cell l.index atom outcome)
