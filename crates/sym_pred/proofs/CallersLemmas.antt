-- For the crates above: facts admit what each of their literals admits, and what the equality of
-- facts, literals and hold forms decides.
use Rattle.std.proofs.Common.{◌≡◌, ◌↔◌, ◌<◌, ℕ, All, Bool, List, [], ◌∷◌, length, get_or, map, refl, sym, ap, ◌∙◌, rules}
use Rattle.std.specs.Bool.{Decides}
use Rattle.std.specs.Ordering.{on}
use Rattle.std.specs.Cmp.{tied_itself}
use Rattle.std.specs.Cmp.Lexicographic.{pointwise, pointwise_decides}
use Rattle.std.specs.FinMap.{entries, entries_sorted, get-entries, same_entries_map}
use Rattle.std.proofs.Math.ListN.{get_or-map}
use Rattle.std.proofs.lemmas.List.{length-map}
use Rattle.sym_base.specs.declared.values.value.Value.{Value}
use Rattle.sym_base.proofs.ValueLemmas.{values_eq-Decides}
use Rattle.sym_pred.specs.contracts.literal.LiteralPartialEq.TheImpl as literal_equality
use Rattle.sym_pred.specs.contracts.form.HoldFormPartialEq.TheImpl as form_equality
use Rattle.sym_pred.specs.declared.literal.Literal.{Literal}
use Rattle.sym_pred.specs.declared.form.HoldForm.{HoldForm}
use Rattle.sym_pred.specs.Facts.{Atom, FactMap}
use Rattle.sym_pred.specs.Literals.{atom_of, entry_of, literal_of, literals}
use Rattle.sym_base.specs.Tests.{Truth}
use Rattle.sym_pred.specs.Meaning.{Stands, Admits}
use Rattle.sym_pred.proofs.EntriesLemmas.{find-at, find-place}
use Rattle.sym_pred.proofs.FactsLemmas.{atom_cmp-total, atom_cmp-IsAntisymmetric}
use Rattle.sym_pred.proofs.DifferenceLemmas.{some_literal}

entry_of-literals : (es : List (Atom × Bool)) → map entry_of (map literal_of es) ≡ es
entry_of-literals [] = refl
entry_of-literals (e ∷ es) = ap (λ rest. e ∷ rest) (entry_of-literals es)

-- Each literal of facts stands,
pub literal_stands : (facts : FactMap) (k : ℕ) (d : Literal) → k < length (literals facts) → Stands facts (atom_of (get_or (literals facts) k d)) (get_or (literals facts) k d).outcome
literal_stands facts k d p =
    let e = get_or (entries facts) k (entry_of d) in
    let inside : k < length (entries facts) = rw (length-map (entries facts) literal_of) at p in
    let stands : Stands facts e.0 e.1 = get-entries facts e.0 ∙ find-at atom_cmp-total (entries facts) k (entry_of d) e.0 (entries_sorted facts) inside (tied_itself atom_cmp-total e.0) in
    rw (get_or-map literal_of (entries facts) k (entry_of d)) stands

-- and what stands is one of the literals.
pub stands_at : (facts : FactMap) (atom : Atom) (outcome : Bool) → Stands facts atom outcome → (k : ℕ) × (k < length (literals facts)) × ((d : Literal) → (atom_of (get_or (literals facts) k d) ≡ atom) × ((get_or (literals facts) k d).outcome ≡ outcome))
stands_at facts atom outcome stands =
    let place = find-place atom_cmp-total (entries facts) atom outcome (sym (get-entries facts atom) ∙ stands) in (
      place.0,
      rw (length-map (entries facts) literal_of) place.1,
      λ d.
          let found = place.2 (entry_of d) in
          let same : (get_or (entries facts) place.0 (entry_of d)).0 ≡ atom = atom_cmp-IsAntisymmetric _ _ found.0 in
          rw (get_or-map literal_of (entries facts) place.0 (entry_of d)) (same, found.1),
    )

pub Admits-literals : (truth : Truth) (facts : FactMap) (parts : List Value) → Admits truth facts parts ↔ All (λ literal. truth literal.test literal.args parts ≡ literal.outcome) (literals facts)
Admits-literals truth facts parts = (
  λ all k d p. all _ _ (literal_stands facts k d p),
  λ all atom outcome stands.
      let place = stands_at facts atom outcome stands in
      let found = place.2 some_literal in
      ap (λ (a : Atom). truth a.0 a.1 parts) (sym found.0) ∙ all place.0 some_literal place.1 ∙ found.1,
)

pub literal_eq-Decides : (x y : Literal) → Decides ((literal_equality.ghosts).eq x y) (x ≡ y)
literal_eq-Decides x y = search (rules, values_eq-Decides)

-- The equality of facts holds exactly of equal ones.
pub facts_eq-Decides : (f g : FactMap) → Decides (on literals (pointwise (literal_equality.ghosts).eq) f g) (f ≡ g)
facts_eq-Decides f g =
    let decides = pointwise_decides literal_eq-Decides (literals f) (literals g) in (
      λ e. same_entries_map f g (sym (entry_of-literals (entries f)) ∙ ap (λ (xs : List Literal). map entry_of xs) (decides.0 e) ∙ entry_of-literals (entries g)),
      λ e. decides.1 (ap (λ (m : FactMap). literals m) e),
    )

pub form_eq-Decides : (x y : HoldForm) → Decides ((form_equality.ghosts).eq x y) (x ≡ y)
form_eq-Decides x y = search (rules, values_eq-Decides)
