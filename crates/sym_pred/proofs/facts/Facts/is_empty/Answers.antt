use Rattle.std.proofs.Common.{sym, ap, ◌∙◌, ◌==◌}
use Rattle.std.specs.FinMap.{len}
use Rattle.sym_pred.specs.Facts.{FactMap}
use Rattle.sym_pred.proofs.FactsLemmas.{len-from_sorted}
use Rattle.sym_pred.proofs.facts.Facts.is_empty.Goals as goal

pub returns : goal.returns
returns c =
    c.is_empty.ensures ∙ ap (λ n. n == 0) (sym (len-from_sorted c.self.inside.literals c.self.invariant) ∙ ap (λ (m : FactMap). len m) c.self.view_is)
