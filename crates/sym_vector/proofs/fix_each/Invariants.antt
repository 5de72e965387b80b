-- The first elements are fixed, and the others are as they were.
use Rattle.std.proofs.Common.{◌≡◌, ℤ}
use Rattle.sym_base.specs.States.{HoldsInt, with_int}
use Rattle.sym_base.specs.declared.values.state.State.{State}
use Rattle.sym_vector.proofs.Changes.{Changed}
use Rattle.sym_vector.proofs.fix_each.Given as goal

abbrev pub invariant-each : goal.invariant-each
invariant-each g l =
    Changed (λ old new. g.E.Element.is_fixed_to old l.cell l.value new × ((state : State) (x : ℤ) → HoldsInt state l.cell x → g.E.Element.value_at new state ≡ g.E.Element.value_at old (with_int state l.cell l.value))) l.initial.elements l.elements l.element-index
