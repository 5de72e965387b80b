use Rattle.std.proofs.Common.{◌≡◌, List, Bool, Some, not, get_or, sym, ap, subst, ◌∙◌}
use Rattle.std.proofs.lemmas.List.{get_or_default}
use Rattle.std.specs.FinMap.{get}
use Rattle.std.specs.List.{Any}
use Rattle.sym_pred.specs.Facts.{Atom}
use Rattle.sym_pred.specs.Literals.{atom_of, literals}
use Rattle.sym_pred.specs.Meaning.{Stands}
use Rattle.sym_pred.specs.declared.literal.Literal.{Literal}
use Rattle.sym_pred.proofs.CallersLemmas.{literal_stands, stands_at}
use Rattle.sym_pred.proofs.DifferenceLemmas.{some_literal}
use Rattle.sym_pred.proofs.FactsLemmas.{literals_of_view}
use Rattle.sym_pred.proofs.facts.Facts.clashes.Goals as goal

pub returns : goal.returns
returns c =
    let own = c.args.self.now in
    let other = c.args.other.now in
    let view : c.as_slice.result.now ≡ literals own = c.as_slice.ensures ∙ sym (literals_of_view _ _ c.self.invariant c.self.view_is) in (
      λ t.
          let a = subst (λ (xs : List Literal). Any (λ l. Stands other (atom_of l) (not l.outcome)) xs) view (c.has_clash.ensures.0 t) in
          record {
            atom = atom_of a.1;
            outcome = a.1.outcome;
            one = subst (λ (z : Literal). Stands own (atom_of z) z.outcome) a.3 (literal_stands own a.0 a.1 a.2);
            other = a.4;
          },
      λ clash.
          let place = stands_at own clash.atom clash.outcome clash.one in
          let found = place.2 some_literal in
          let l : Literal = get_or (literals own) place.0 some_literal in
          c.has_clash.ensures.1
          (subst (λ (xs : List Literal). Any (λ l. Stands other (atom_of l) (not l.outcome)) xs) (sym view)
          (place.0, l, place.1, get_or_default (literals own) place.0 l some_literal place.1, ap (λ (a : Atom). get other a) found.0 ∙ clash.other ∙ ap (λ (b : Bool). Some (not b)) (sym found.1))),
    )
