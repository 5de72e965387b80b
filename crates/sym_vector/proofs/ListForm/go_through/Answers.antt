use Rattle.std.proofs.Common.{◌≡◌, ◌++◌, List, length, take, drop, arith, ap, subst, ◌∙◌}
use Rattle.std.specs.List.{AllZip}
use Rattle.sym_base.specs.declared.values.state.State.{State}
use Rattle.sym_vector.proofs.ListsLemmas.{list_at-appended, written_back}
use Rattle.sym_vector.proofs.ListForm.go_through.Goals as goal

pub returns-clause-composed : goal.returns-clause-composed
returns-clause-composed g c =
    let left : c.left.inside.added.items ≡ c.args.left = c.left.view_is in
    let these : c.deref_mut.result.now ≡ c.args.self = c.deref_mut.ensures.value ∙ c.self.view_is in
    let now : take c.self.inside.added.len (c.lead_each.new.elements ++ drop (length c.lead_each.new.elements) c.self.inside.added.items) ≡ c.lead_each.new.elements = written_back _ _ c.self.inside.added.items (omega (arith, c.lead_each.auto.elements, ap length c.deref_mut.ensures.value)) (omega (arith, c.lead_each.auto.elements, c.deref_mut.ensures.len)) in
    let items : c.append.new.self.items ≡ c.args.left ++ c.lead_each.new.elements = c.in_ok-append.ensures.items ∙ (λ i. left i ++ now i) in
    list_at-appended g.E.Element.value_at (λ state. g.E.Element.covers c.args.context.now state) (λ state. g.E.Element.leads_to c.args.context.now state) c.args.left c.args.self c.lead_each.new.elements _ items
    (subst (λ (xs : List g.row.E.Denot). AllZip (λ before after. (state : State) → g.E.Element.covers c.args.context.now state → g.E.Element.value_at after state ≡ g.E.Element.value_at before (g.E.Element.leads_to c.args.context.now state)) xs c.lead_each.new.elements) these c.lead_each.ensures.values)
