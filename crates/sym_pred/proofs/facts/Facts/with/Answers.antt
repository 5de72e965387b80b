use Rattle.std.proofs.Common.{◌≡◌, List, map, get_or, Some, None, Err, sym, ap, subst, ◌∙◌}
use Rattle.std.specs.FinMap.{find}
use Rattle.sym_pred.specs.Facts.{atom_cmp}
use Rattle.sym_pred.specs.Literals.{atom_of, entry_of}
use Rattle.sym_pred.specs.Places.{IsPlace}
use Rattle.sym_pred.specs.declared.literal.Literal.{Literal}
use Rattle.sym_pred.specs.declared.facts.Added.TheVariants.{Longer}
use Rattle.sym_pred.proofs.DifferenceLemmas.{some_literal}
use Rattle.sym_pred.proofs.FactsLemmas.{get_of_view, literals_of_view}
use Rattle.sym_pred.proofs.MeaningLemmas.{AdmitsAdded-from_IsAdded}
use Rattle.sym_pred.proofs.facts.Facts.with.Goals as goal

pub unreachable-requires : goal.unreachable-requires
unreachable-requires c =
    let both : None ≡ Some (get_or c.as_slice.result.now c.in-Ok.field-0 some_literal).outcome =
    sym c.requires ∙ get_of_view _ _ c.self.invariant c.self.view_is (atom_of c.args.literal)
    ∙ ap (λ (xs : List Literal). find atom_cmp (atom_of c.args.literal) (map entry_of xs)) (sym c.as_slice.ensures)
    ∙ c.in-Ok.ensures.2 some_literal in
    cc

pub longer-requires : goal.longer-requires
longer-requires c =
    subst (λ (xs : List Literal). IsPlace xs (atom_of c.args.literal) (Err c.in-Err.index)) (c.as_slice.ensures ∙ sym (literals_of_view _ _ c.self.invariant c.self.view_is)) c.in-Err.ensures

pub returns-clause-admits : goal.returns-clause-admits
returns-clause-admits c = AdmitsAdded-from_IsAdded c.args.self c.args.literal (Longer c.in_ok-longer-in-Err.field-0) (c.requires, c.in_ok-longer-in-Err.ensures)
