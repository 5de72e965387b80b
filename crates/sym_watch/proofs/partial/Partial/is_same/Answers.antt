use Rattle.std.proofs.Common.{◌≡◌, ◌∙◌, sym, rules}
use Rattle.sym_watch.specs.contracts.partial.PartialPartialEq.TheImpl as equality
use Rattle.sym_watch.proofs.Equality.{partial_eq-Decides}
use Rattle.sym_watch.proofs.partial.Partial.is_same.Goals as goal

pub returns : goal.returns
returns c =
    let told = partial_eq-Decides c.args.self.now c.args.other.now in
    let answer : c.eq.result ≡ (equality.ghosts).eq c.args.self.now c.args.other.now = search rules in
    (λ e. told.0 (sym answer ∙ e), λ e. answer ∙ told.1 e)
