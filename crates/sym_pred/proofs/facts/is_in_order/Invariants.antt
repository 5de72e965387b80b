-- The atoms of the first literals rise.
use Rattle.std.proofs.Common.{◌≡◌}
use Rattle.std.specs.List.{AllAdjacentBelow}
use Rattle.std.specs.declared.cmp.Ordering.TheVariants.{Less}
use Rattle.sym_pred.specs.Facts.{atom_cmp}
use Rattle.sym_pred.specs.Literals.{atom_of}
use Rattle.sym_pred.proofs.facts.is_in_order.Given as goal

abbrev pub invariant-places : goal.invariant-places
invariant-places l = AllAdjacentBelow (λ x y. atom_cmp (atom_of x) (atom_of y) ≡ Less) l.literals l.index
