-- The first elements have gone through the context, and the others are as they were.
use Rattle.std.proofs.Common.{◌≡◌}
use Rattle.sym_base.specs.declared.values.state.State.{State}
use Rattle.sym_vector.proofs.Changes.{Changed}
use Rattle.sym_vector.proofs.lead_each.Given as goal

abbrev pub invariant-these : goal.invariant-these
invariant-these g l =
    Changed (λ old new. g.E.Element.goes_through_to old l.context new × ((state : State) → g.E.Element.covers l.context state → g.E.Element.value_at new state ≡ g.E.Element.value_at old (g.E.Element.leads_to l.context state))) l.initial.elements l.elements l.element-index
