use Rattle.std.proofs.Common.{sym, ap, ◌∙◌, slice_get}
use Rattle.sym_pred.specs.Literals.{literals}
use Rattle.sym_pred.specs.Facts.{FactMap}
use Rattle.sym_pred.proofs.FactsLemmas.{literals-from_sorted}
use Rattle.sym_pred.proofs.facts.Facts.at.Goals as goal

pub returns : goal.returns
returns c =
    c.get.ensures
    ∙ ap (λ xs. slice_get xs c.args.index) (sym (literals-from_sorted c.self.inside.literals c.self.invariant) ∙ ap (λ (m : FactMap). literals m) c.self.view_is)
