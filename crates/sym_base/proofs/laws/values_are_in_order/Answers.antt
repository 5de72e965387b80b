use Rattle.std.proofs.Common.{◌≡◌, ◌∙◌, sym, rules}
use Rattle.sym_base.specs.Order.{value_cmp}
use Rattle.sym_base.proofs.ValueLemmas.{value_cmp-ties}
use Rattle.sym_base.proofs.laws.values_are_in_order.Goals as goal

pub returns-clause-tie : goal.returns-clause-tie
returns-clause-tie c =
    let order : c.cmp.result ≡ value_cmp c.args.left.now c.args.right.now = search rules in
    let ties = value_cmp-ties c.args.left.now c.args.right.now in
    (λ e. ties.0 (sym order ∙ e), λ e. order ∙ ties.1 e)
