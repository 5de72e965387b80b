use Rattle.std.proofs.Common.{◌≡◌, ℤ, List, subst, to_z, of_z, w64}
use Rattle.std.proofs.lemmas.Int.{to_z-of_z}
use Rattle.sym_base.specs.States.{HoldsInt, with_int}
use Rattle.sym_base.specs.declared.values.state.State.{State}
use Rattle.std.specs.List.{AllZip}
use Rattle.sym_vector.proofs.ListForm.fixed.Goals as goal

pub returns-clause-elements : goal.returns-clause-elements
returns-clause-elements g c =
    let v : ℤ = to_z w64 (of_z w64 c.args.value) in
    let number : v ≡ c.args.value = to_z-of_z w64 c.args.value c.ranges.value in
    subst (λ (these : List g.row.E.Denot). AllZip (λ old new. g.E.Element.is_fixed_to old c.args.cell c.args.value new) these c.fix.new.self) c.in_ok-form.ensures
    (subst (λ (n : ℤ). AllZip (λ old new. g.E.Element.is_fixed_to old c.args.cell n new) c.in_ok-form.form c.fix.new.self) number c.fix.ensures.elements)

pub returns-clause-each : goal.returns-clause-each
returns-clause-each g c =
    let v : ℤ = to_z w64 (of_z w64 c.args.value) in
    let number : v ≡ c.args.value = to_z-of_z w64 c.args.value c.ranges.value in
    subst (λ (these : List g.row.E.Denot). AllZip (λ old new. (state : State) (x : ℤ) → HoldsInt state c.args.cell x → g.E.Element.value_at new state ≡ g.E.Element.value_at old (with_int state c.args.cell c.args.value)) these c.fix.new.self) c.in_ok-form.ensures
    (subst (λ (n : ℤ). AllZip (λ old new. (state : State) (x : ℤ) → HoldsInt state c.args.cell x → g.E.Element.value_at new state ≡ g.E.Element.value_at old (with_int state c.args.cell n)) c.in_ok-form.form c.fix.new.self) number c.fix.ensures.each)
