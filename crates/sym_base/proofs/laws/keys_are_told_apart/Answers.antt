use Rattle.std.proofs.Common.{◌≡◌, ◌∙◌, sym, rules}
use Rattle.sym_base.specs.contracts.values.value.KeyPartialEq.TheImpl as equality
use Rattle.sym_base.proofs.ValueLemmas.{key_eq-Decides}
use Rattle.sym_base.proofs.laws.keys_are_told_apart.Goals as goal

pub returns : goal.returns
returns c =
    let told = key_eq-Decides c.args.left.now c.args.right.now in
    let answer : c.eq.result ≡ (equality.ghosts).eq c.args.left.now c.args.right.now = search rules in
    (λ e. told.0 (sym answer ∙ e), λ e. answer ∙ told.1 e)
