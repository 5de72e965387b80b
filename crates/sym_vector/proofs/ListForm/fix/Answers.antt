use Rattle.std.proofs.Common.{◌≡◌, ◌++◌, ℤ, List, length, take, drop, arith, ap, sym, subst, ◌∙◌, to_z, of_z, w64}
use Rattle.std.proofs.lemmas.Int.{to_z-of_z}
use Rattle.sym_base.specs.States.{HoldsInt, with_int}
use Rattle.sym_base.specs.declared.values.state.State.{State}
use Rattle.std.specs.List.{AllZip}
use Rattle.sym_vector.proofs.ListsLemmas.{list_at-fixed, written_back}
use Rattle.sym_vector.proofs.ListForm.fix.Goals as goal

pub returns-clause-elements : goal.returns-clause-elements
returns-clause-elements g c =
    let v : ℤ = to_z w64 (of_z w64 c.args.value) in
    let number : v ≡ c.args.value = to_z-of_z w64 c.args.value c.ranges.value in
    let these : c.deref_mut.result.now ≡ c.args.self.now = c.deref_mut.ensures.value ∙ c.self.view_is in
    let now : take c.self.inside.added.len (c.fix_each.new.elements ++ drop (length c.fix_each.new.elements) c.self.inside.added.items) ≡ c.fix_each.new.elements = written_back _ _ c.self.inside.added.items (omega (arith, c.fix_each.auto.elements, ap length c.deref_mut.ensures.value)) (omega (arith, c.fix_each.auto.elements, c.deref_mut.ensures.len)) in
    subst (λ (form : List g.row.E.Denot). AllZip (λ old new. g.E.Element.is_fixed_to old c.args.cell c.args.value new) c.args.self.now form) (sym now)
    (subst (λ (these : List g.row.E.Denot). AllZip (λ old new. g.E.Element.is_fixed_to old c.args.cell c.args.value new) these c.fix_each.new.elements) these
    (subst (λ (n : ℤ). AllZip (λ old new. g.E.Element.is_fixed_to old c.args.cell n new) c.deref_mut.result.now c.fix_each.new.elements) number c.fix_each.ensures.elements))

pub returns-clause-each : goal.returns-clause-each
returns-clause-each g c =
    let v : ℤ = to_z w64 (of_z w64 c.args.value) in
    let number : v ≡ c.args.value = to_z-of_z w64 c.args.value c.ranges.value in
    let these : c.deref_mut.result.now ≡ c.args.self.now = c.deref_mut.ensures.value ∙ c.self.view_is in
    let now : take c.self.inside.added.len (c.fix_each.new.elements ++ drop (length c.fix_each.new.elements) c.self.inside.added.items) ≡ c.fix_each.new.elements = written_back _ _ c.self.inside.added.items (omega (arith, c.fix_each.auto.elements, ap length c.deref_mut.ensures.value)) (omega (arith, c.fix_each.auto.elements, c.deref_mut.ensures.len)) in
    subst (λ (form : List g.row.E.Denot). AllZip (λ old new. (state : State) (x : ℤ) → HoldsInt state c.args.cell x → g.E.Element.value_at new state ≡ g.E.Element.value_at old (with_int state c.args.cell c.args.value)) c.args.self.now form) (sym now)
    (subst (λ (these : List g.row.E.Denot). AllZip (λ old new. (state : State) (x : ℤ) → HoldsInt state c.args.cell x → g.E.Element.value_at new state ≡ g.E.Element.value_at old (with_int state c.args.cell c.args.value)) these c.fix_each.new.elements) these
    (subst (λ (n : ℤ). AllZip (λ old new. (state : State) (x : ℤ) → HoldsInt state c.args.cell x → g.E.Element.value_at new state ≡ g.E.Element.value_at old (with_int state c.args.cell n)) c.deref_mut.result.now c.fix_each.new.elements) number c.fix_each.ensures.values))

pub returns-clause-list : goal.returns-clause-list
returns-clause-list g c =
    list_at-fixed g.E.Element.value_at (λ state x. HoldsInt state c.args.cell x) (λ state. with_int state c.args.cell c.args.value) _ _ (returns-clause-each g c)
