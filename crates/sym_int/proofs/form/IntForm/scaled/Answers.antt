use Rattle.std.proofs.Common.{arith, ◌≡◌, pos, ◌∙◌, sym}
use Rattle.std.proofs.lemmas.Int.{ints}
use Rattle.sym_int.proofs.Products.{zero_times}
use Rattle.sym_int.specs.Lines.{form_on, form_value}
use Rattle.sym_int.proofs.form.IntForm.scaled.Goals as goal

pub returns-then-a-eq0-clause-value : goal.returns-then-a-eq0-clause-value
returns-then-a-eq0-clause-value c = λ state.
    let zero : c.args.a ≡ pos 0 = omega (arith, ints) in
    omega (arith, ints) ∙ sym (zero_times c.args.a (form_value c.args.self.now state) c.args.b zero)

pub returns-then-a-eq0-clause-points : goal.returns-then-a-eq0-clause-points
returns-then-a-eq0-clause-points c = λ x.
    let zero : c.args.a ≡ pos 0 = omega (arith, ints) in
    omega (arith, ints) ∙ sym (zero_times c.args.a (form_on c.args.self.now x) c.args.b zero)
