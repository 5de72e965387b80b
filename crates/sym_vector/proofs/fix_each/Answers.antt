use Rattle.std.proofs.Common.{◌≡◌, ◌<◌, ℤ, length, get_or, sym, subst, arith, to_z, of_z, w64}
use Rattle.std.proofs.lemmas.Int.{to_z-of_z}
use Rattle.sym_base.specs.States.{HoldsInt, with_int}
use Rattle.sym_base.specs.declared.values.state.State.{State}
use Rattle.std.specs.List.{AllZip}
use Rattle.sym_vector.proofs.Changes.{Changed-length, Changed-here, Changed-next, Changed-whole, AllZip-weak}
use Rattle.sym_vector.proofs.fix_each.Goals as goal

pub fix-requires : goal.fix-requires
fix-requires g c =
    let v : ℤ = to_z w64 (of_z w64 c.args.value) in
    let R : g.row.E.Denot → g.row.E.Denot → Type 0 = λ old new. g.E.Element.is_fixed_to old c.args.cell v new × ((state : State) (x : ℤ) → HoldsInt state c.args.cell x → g.E.Element.value_at new state ≡ g.E.Element.value_at old (with_int state c.args.cell v)) in
    let number : v ≡ c.args.value = to_z-of_z w64 c.args.value c.ranges.value in
    let below : c.each.element-index < length c.args.elements.now = omega (arith, Changed-length R _ _ c.each.element-index c.each.invariant) in
    subst (λ (n : ℤ). g.E.Element.can_fix (get_or c.each.elements c.each.element-index c.element-item.result) c.args.cell n) (sym number)
    (subst (λ element. g.E.Element.can_fix element c.args.cell c.args.value) (sym (Changed-here R _ _ c.each.element-index c.element-item.result c.each.invariant)) (c.requires c.each.element-index c.element-item.result below))

pub each-preserved : goal.each-preserved
each-preserved g c =
    let v : ℤ = to_z w64 (of_z w64 c.args.value) in
    let R : g.row.E.Denot → g.row.E.Denot → Type 0 = λ old new. g.E.Element.is_fixed_to old c.args.cell v new × ((state : State) (x : ℤ) → HoldsInt state c.args.cell x → g.E.Element.value_at new state ≡ g.E.Element.value_at old (with_int state c.args.cell v)) in
    let below : c.each.element-index < length c.each.elements = omega (arith, Changed-length R _ _ c.each.element-index c.each.invariant) in
    Changed-next R _ _ c.each.element-index c.element-item.result c.fix.new.self below (c.fix.ensures.element, c.fix.ensures.value) c.each.invariant

pub returns-clause-elements : goal.returns-clause-elements
returns-clause-elements g c =
    let v : ℤ = to_z w64 (of_z w64 c.args.value) in
    let R : g.row.E.Denot → g.row.E.Denot → Type 0 = λ old new. g.E.Element.is_fixed_to old c.args.cell v new × ((state : State) (x : ℤ) → HoldsInt state c.args.cell x → g.E.Element.value_at new state ≡ g.E.Element.value_at old (with_int state c.args.cell v)) in
    let number : v ≡ c.args.value = to_z-of_z w64 c.args.value c.ranges.value in
    let whole = Changed-whole R _ _ c.each.element-index c.each-test.false c.each.invariant in
    subst (λ (n : ℤ). AllZip (λ old new. g.E.Element.is_fixed_to old c.args.cell n new) c.args.elements.now c.each.elements) number
    (AllZip-weak R (λ old new. g.E.Element.is_fixed_to old c.args.cell v new) _ _ (λ x y r. r.0) whole)

pub returns-clause-values : goal.returns-clause-values
returns-clause-values g c =
    let v : ℤ = to_z w64 (of_z w64 c.args.value) in
    let R : g.row.E.Denot → g.row.E.Denot → Type 0 = λ old new. g.E.Element.is_fixed_to old c.args.cell v new × ((state : State) (x : ℤ) → HoldsInt state c.args.cell x → g.E.Element.value_at new state ≡ g.E.Element.value_at old (with_int state c.args.cell v)) in
    let number : v ≡ c.args.value = to_z-of_z w64 c.args.value c.ranges.value in
    let whole = Changed-whole R _ _ c.each.element-index c.each-test.false c.each.invariant in
    subst (λ (n : ℤ). AllZip (λ old new. (state : State) (x : ℤ) → HoldsInt state c.args.cell x → g.E.Element.value_at new state ≡ g.E.Element.value_at old (with_int state c.args.cell n)) c.args.elements.now c.each.elements) number
    (AllZip-weak R (λ old new. (state : State) (x : ℤ) → HoldsInt state c.args.cell x → g.E.Element.value_at new state ≡ g.E.Element.value_at old (with_int state c.args.cell v)) _ _ (λ x y r. r.1) whole)
