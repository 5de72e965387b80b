use Rattle.std.proofs.Common.{sym, subst, ◌∙◌}
use Rattle.sym_pred.specs.Places.{IsInOrder}
use Rattle.sym_pred.proofs.FactsLemmas.{literals-from_sorted}
use Rattle.sym_pred.proofs.facts.Facts.of.Goals as goal

pub returns-then-is_in_order : goal.returns-then-is_in_order
returns-then-is_in_order c = literals-from_sorted c.of.result (subst IsInOrder (c.as_slice.ensures.value ∙ sym c.of.ensures) (c.is_in_order.ensures.0 c.if-is_in_order.true)) ∙ c.of.ensures
