use Rattle.std.proofs.Common.{◌≡◌, ◌<◌, length, sym, subst, arith}
use Rattle.sym_base.specs.declared.values.state.State.{State}
use Rattle.sym_vector.proofs.Changes.{Changed-length, Changed-here, Changed-next, Changed-whole, AllZip-weak}
use Rattle.sym_vector.proofs.lead_each.Goals as goal

pub go_through-requires : goal.go_through-requires
go_through-requires g c =
    let R : g.row.E.Denot → g.row.E.Denot → Type 0 = λ old new. g.E.Element.goes_through_to old c.args.context.now new × ((state : State) → g.E.Element.covers c.args.context.now state → g.E.Element.value_at new state ≡ g.E.Element.value_at old (g.E.Element.leads_to c.args.context.now state)) in
    let below : c.these.element-index < length c.args.elements.now = omega (arith, Changed-length R _ _ c.these.element-index c.these.invariant) in
    subst (λ element. g.E.Element.can_go_through element c.args.context.now) (sym (Changed-here R _ _ c.these.element-index c.element-item.result c.these.invariant)) (c.requires c.these.element-index c.element-item.result below)

pub these-preserved : goal.these-preserved
these-preserved g c =
    let R : g.row.E.Denot → g.row.E.Denot → Type 0 = λ old new. g.E.Element.goes_through_to old c.args.context.now new × ((state : State) → g.E.Element.covers c.args.context.now state → g.E.Element.value_at new state ≡ g.E.Element.value_at old (g.E.Element.leads_to c.args.context.now state)) in
    let below : c.these.element-index < length c.these.elements = omega (arith, Changed-length R _ _ c.these.element-index c.these.invariant) in
    Changed-next R _ _ c.these.element-index c.element-item.result c.go_through.new.self below (c.go_through.ensures.element, c.go_through.ensures.value) c.these.invariant

pub returns : goal.returns
returns g c =
    let R : g.row.E.Denot → g.row.E.Denot → Type 0 = λ old new. g.E.Element.goes_through_to old c.args.context.now new × ((state : State) → g.E.Element.covers c.args.context.now state → g.E.Element.value_at new state ≡ g.E.Element.value_at old (g.E.Element.leads_to c.args.context.now state)) in
    let whole = Changed-whole R _ _ c.these.element-index c.these-test.false c.these.invariant in
    record {
      elements = AllZip-weak R (λ old new. g.E.Element.goes_through_to old c.args.context.now new) _ _ (λ x y r. r.0) whole;
      values = AllZip-weak R (λ old new. (state : State) → g.E.Element.covers c.args.context.now state → g.E.Element.value_at new state ≡ g.E.Element.value_at old (g.E.Element.leads_to c.args.context.now state)) _ _ (λ x y r. r.1) whole;
    }
