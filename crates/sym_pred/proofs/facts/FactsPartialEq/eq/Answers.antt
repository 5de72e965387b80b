use Rattle.sym_pred.proofs.FactsLemmas.{literals_of_view}
use Rattle.sym_pred.proofs.facts.FactsPartialEq.eq.Goals as goal

pub returns : goal.returns
returns c =
    let one = literals_of_view _ _ c.self.invariant c.self.view_is in
    let two = literals_of_view _ _ c.other.invariant c.other.view_is in
    rw (one, two) c.eq.ensures
