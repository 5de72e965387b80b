use Rattle.std.proofs.Common.{◌≡◌, ◌∙◌, ℤ, List, length, ap, sym, subst, arith, to_z, of_z, w64}
use Rattle.std.proofs.lemmas.Int.{to_z-of_z}
use Rattle.std.specs.List.{AllZip}
use Rattle.sym_path.specs.Narrowing.{NumberIsPut}
use Rattle.sym_path.specs.declared.form.Form.{Form}
use Rattle.sym_vector.proofs.ListsLemmas.{written_back}
use Rattle.sym_path.proofs.cell_constraints.numbers_put.Goals as goal

pub returns : goal.returns
returns c =
    let number : to_z w64 (of_z w64 c.args.value) ≡ c.args.value = to_z-of_z w64 c.args.value c.ranges.value in
    let these : c.deref_mut.result.now ≡ c.args.forms = c.deref_mut.ensures.value ∙ c.into_vec-items.ensures in
    let now : c.of.result ≡ c.put_numbers.new.forms = c.of.ensures ∙ written_back _ _ c.into_vec-items.result.items (omega (arith, c.put_numbers.auto.forms, ap length c.deref_mut.ensures.value)) (omega (arith, c.put_numbers.auto.forms, c.deref_mut.ensures.len)) in
    subst (λ (fs : List Form). AllZip (NumberIsPut c.args.cell c.args.value) c.args.forms fs) (sym now)
    (subst (λ (fs : List Form). AllZip (NumberIsPut c.args.cell c.args.value) fs c.put_numbers.new.forms) these
    (subst (λ (n : ℤ). AllZip (NumberIsPut c.args.cell n) c.deref_mut.result.now c.put_numbers.new.forms) number c.put_numbers.ensures))
