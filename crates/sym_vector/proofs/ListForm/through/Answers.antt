use Rattle.std.proofs.Common.{◌≡◌, List, IfOk, drop, length, subst}
use Rattle.sym_base.specs.declared.values.state.State.{State}
use Rattle.std.specs.List.{AllZip}
use Rattle.sym_vector.proofs.ListForm.through.Goals as goal

pub returns-clause-elements : goal.returns-clause-elements
returns-clause-elements g c =
    subst (λ (these : List g.row.E.Denot). IfOk c.go_through.result (λ form. AllZip (λ old new. g.E.Element.goes_through_to old c.args.context.now new) these (drop (length c.args.left.now) form))) c.in_ok-copy.ensures
    (subst (λ (left : List g.row.E.Denot). IfOk c.go_through.result (λ form. AllZip (λ old new. g.E.Element.goes_through_to old c.args.context.now new) c.in_ok-copy.field-0 (drop (length left) form))) c.in_ok-copy-2.ensures c.go_through.ensures.elements)

pub returns-clause-values : goal.returns-clause-values
returns-clause-values g c =
    subst (λ (these : List g.row.E.Denot). IfOk c.go_through.result (λ form. AllZip (λ old new. (state : State) → g.E.Element.covers c.args.context.now state → g.E.Element.value_at new state ≡ g.E.Element.value_at old (g.E.Element.leads_to c.args.context.now state)) these (drop (length c.args.left.now) form))) c.in_ok-copy.ensures
    (subst (λ (left : List g.row.E.Denot). IfOk c.go_through.result (λ form. AllZip (λ old new. (state : State) → g.E.Element.covers c.args.context.now state → g.E.Element.value_at new state ≡ g.E.Element.value_at old (g.E.Element.leads_to c.args.context.now state)) c.in_ok-copy.field-0 (drop (length left) form))) c.in_ok-copy-2.ensures c.go_through.ensures.values)
