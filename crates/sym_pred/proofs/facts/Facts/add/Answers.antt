use Rattle.std.proofs.Common.{◌≡◌, ℕ, get_or, List, map, Err, Some, sym, ap, subst, ◌∙◌}
use Rattle.std.specs.FinMap.{find, insert}
use Rattle.sym_pred.specs.declared.literal.Literal.{Literal}
use Rattle.sym_pred.specs.declared.facts.Added.TheVariants.{Same, Longer, Against}
use Rattle.sym_pred.specs.Facts.{FactMap, atom_cmp}
use Rattle.sym_pred.specs.Literals.{atom_of, entry_of, literals}
use Rattle.sym_pred.specs.Places.{IsPlace}
use Rattle.sym_pred.proofs.FactsLemmas.{get_of_view, literals_of_view}
use Rattle.sym_pred.proofs.MeaningLemmas.{beq-true, beq-false, AdmitsAdded-from_IsAdded}
use Rattle.sym_pred.proofs.facts.Facts.add.Goals as goal

same : (xs ys : List Literal) → xs ≡ ys → (i : ℕ) (d : Literal) → (get_or xs i d).outcome ≡ (get_or ys i d).outcome
same xs ys e i d = ap (λ (zs : List Literal). (get_or zs i d).outcome) e

pub returns-then-as_slice-index-clause-added : goal.returns-then-as_slice-index-clause-added
returns-then-as_slice-index-clause-added c =
    get_of_view _ _ c.self.invariant c.self.view_is (atom_of c.args.literal)
    ∙ ap (λ (xs : List Literal). find atom_cmp (atom_of c.args.literal) (map entry_of xs)) (sym c.as_slice.ensures)
    ∙ c.in-Ok.ensures.2 c.index-as_slice-index.result
    ∙ ap Some (same c.as_slice.result.now c.as_slice-in-Ok.result.now (c.as_slice.ensures ∙ sym c.as_slice-in-Ok.ensures) c.in-Ok.index c.index-as_slice-index.result ∙ beq-true _ _ c.if-as_slice-index.true)

pub returns-then-as_slice-index-clause-admits : goal.returns-then-as_slice-index-clause-admits
returns-then-as_slice-index-clause-admits c = AdmitsAdded-from_IsAdded c.args.self.now c.args.literal Same (returns-then-as_slice-index-clause-added c)

pub longer-requires : goal.longer-requires
longer-requires c =
    subst (λ xs. IsPlace xs (atom_of c.args.literal) (Err c.in-Err.index)) (c.as_slice.ensures ∙ sym (literals_of_view _ _ c.self.invariant c.self.view_is) ∙ ap (λ (m : FactMap). literals m) (sym c.in_ok-copy-in-Err.ensures)) c.in-Err.ensures

pub returns-else-as_slice-index-clause-added : goal.returns-else-as_slice-index-clause-added
returns-else-as_slice-index-clause-added c =
    get_of_view _ _ c.self.invariant c.self.view_is (atom_of c.args.literal)
    ∙ ap (λ (xs : List Literal). find atom_cmp (atom_of c.args.literal) (map entry_of xs)) (sym c.as_slice.ensures)
    ∙ c.in-Ok.ensures.2 c.index-as_slice-index.result
    ∙ ap Some (same c.as_slice.result.now c.as_slice-in-Ok.result.now (c.as_slice.ensures ∙ sym c.as_slice-in-Ok.ensures) c.in-Ok.index c.index-as_slice-index.result ∙ beq-false _ _ c.if-as_slice-index.false)

pub returns-else-as_slice-index-clause-admits : goal.returns-else-as_slice-index-clause-admits
returns-else-as_slice-index-clause-admits c = AdmitsAdded-from_IsAdded c.args.self.now c.args.literal Against (returns-else-as_slice-index-clause-added c)

pub returns-in_ok-longer-in-Err-clause-added : goal.returns-in_ok-longer-in-Err-clause-added
returns-in_ok-longer-in-Err-clause-added c = (
  get_of_view _ _ c.self.invariant c.self.view_is (atom_of c.args.literal)
      ∙ ap (λ (xs : List Literal). find atom_cmp (atom_of c.args.literal) (map entry_of xs)) (sym c.as_slice.ensures)
      ∙ c.in-Err.ensures.1,
  c.in_ok-longer-in-Err.ensures ∙ ap (λ (m : FactMap). insert m (atom_of c.args.literal) c.args.literal.outcome) c.in_ok-copy-in-Err.ensures,
)

pub returns-in_ok-longer-in-Err-clause-admits : goal.returns-in_ok-longer-in-Err-clause-admits
returns-in_ok-longer-in-Err-clause-admits c = AdmitsAdded-from_IsAdded c.args.self.now c.args.literal (Longer c.in_ok-longer-in-Err.field-0) (returns-in_ok-longer-in-Err-clause-added c)
