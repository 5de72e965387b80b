use Rattle.std.proofs.Common.{◌∙◌, sym, ap}
use Rattle.std.specs.FinMap.{insert}
use Rattle.sym_pred.specs.Facts.{FactMap}
use Rattle.sym_pred.specs.Literals.{atom_of}
use Rattle.sym_pred.specs.declared.literal.Literal.{Literal}
use Rattle.sym_pred.proofs.WithLemmas.{inserted_with}
use Rattle.sym_pred.proofs.facts.Facts.with_copy.Goals as goal

pub returns-in_ok-with-in-None-clause-found : goal.returns-in_ok-with-in-None-clause-found
returns-in_ok-with-in-None-clause-found c =
    inserted_with c.args.self c.in_ok-with-in-None.field-0 c.args.literal.now (sym c.says.ensures ∙ c.in-None.is)
    (c.in_ok-with-in-None.ensures.facts ∙ ap (λ (m : FactMap). insert m (atom_of c.in_ok-copy-in-None.field-0) c.in_ok-copy-in-None.field-0.outcome) c.self.view_is ∙ ap (λ (l : Literal). insert c.args.self (atom_of l) l.outcome) c.in_ok-copy-in-None.ensures)
