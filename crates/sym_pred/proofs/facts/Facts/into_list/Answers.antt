use Rattle.std.proofs.Common.{sym}
use Rattle.sym_pred.proofs.FactsLemmas.{literals_of_view}
use Rattle.sym_pred.proofs.facts.Facts.into_list.Goals as goal

pub returns : goal.returns
returns c = sym (literals_of_view _ _ c.self.invariant c.self.view_is)
