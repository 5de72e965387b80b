use Rattle.std.proofs.Common.{◌≡◌, ◌+◌, ◌-◌, ◌<◌, length, get_or, true, refl, sym, ap, ◌∙◌, inl, inr, arith}
use Rattle.std.proofs.lemmas.Bool.{cases_eq}
use Rattle.std.proofs.lemmas.List.{get_or_default}
use Rattle.std.specs.Ordering.{is_lt}
use Rattle.sym_pred.specs.Facts.{atom_cmp}
use Rattle.sym_pred.specs.Literals.{atom_of}
use Rattle.sym_pred.proofs.EntriesLemmas.{lt_is_Less}
use Rattle.sym_pred.proofs.FactsLemmas.{in_order_from_adjacent, rising_at}
use Rattle.sym_pred.proofs.facts.is_in_order.Goals as goal

pub returns : goal.returns
returns c = (λ _. in_order_from_adjacent c.args.literals.now (λ k d p. c.places.invariant k d (omega arith)), λ _. refl)

pub returns-then-not-is_lt : goal.returns-then-not-is_lt
returns-then-not-is_lt c = (
  λ e. cc,
  λ h.
      let less = rising_at c.args.literals.now (c.places.index - 1) c.places.index c.index-literals-index.result c.index-literals-index-in-places.result h (omega arith) (omega arith) c.index-literals-index.is c.index-literals-index-in-places.is in
      let below : c.is_lt.result ≡ true = c.is_lt.ensures ∙ ap is_lt (c.order.ensures ∙ less) in
      cc,
)

pub places-preserved : goal.places-preserved
places-preserved c = λ k d p.
    elim (cases_eq (k + 1) c.places.index) [
      | inl e ↦
          let place : k ≡ c.places.index - 1 = omega arith in
          let inside : k < length c.args.literals.now = omega arith in
          let next : k + 1 < length c.args.literals.now = omega arith in
          let first : get_or c.args.literals.now k d ≡ c.index-literals-index.result = get_or_default c.args.literals.now k d c.index-literals-index.result inside ∙ ap (λ j. get_or c.args.literals.now j c.index-literals-index.result) place ∙ sym c.index-literals-index.is in
          let second : get_or c.args.literals.now (k + 1) d ≡ c.index-literals-index-in-places.result = get_or_default c.args.literals.now (k + 1) d c.index-literals-index-in-places.result next ∙ ap (λ j. get_or c.args.literals.now j c.index-literals-index-in-places.result) e ∙ sym c.index-literals-index-in-places.is in
          (λ i. atom_cmp (atom_of (first i)) (atom_of (second i))) ∙ sym c.order.ensures ∙ lt_is_Less _ (sym c.is_lt.ensures ∙ c.if-not-is_lt.false)
      | inr ne ↦ c.places.invariant k d (omega (arith, ne))
    ]
