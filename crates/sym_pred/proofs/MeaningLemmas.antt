-- What longer facts, met facts and united facts admit.
use Rattle.std.proofs.Common.{◌≡◌, ◌≢◌, ◌↔◌, ◌⊎◌, Bool, true, false, not, cond, List, Some, None, refl, sym, ap, ◌∙◌, inl, inr}
use mathlib.Core.Bool.{beq}
use Rattle.std.proofs.lemmas.Option.{same_Some}
use Rattle.std.specs.Ordering.{eq_by_cmp, is_eq}
use Rattle.std.specs.Cmp.{tied_itself}
use Rattle.std.specs.FinMap.{get, insert, remove, get-insert, get-remove, same_map}
use Rattle.sym_base.specs.declared.values.value.Value.{Value}
use Rattle.sym_pred.specs.declared.literal.Literal.{Literal}
use Rattle.sym_pred.specs.declared.facts.Added.{Added}
use Rattle.sym_pred.specs.declared.facts.Added.TheVariants.{Same, Longer, Against}
use Rattle.sym_pred.specs.Facts.{Atom, atom_cmp, FactMap}
use Rattle.sym_pred.specs.Literals.{atom_of}
use Rattle.sym_base.specs.Tests.{Truth}
use Rattle.sym_pred.specs.Meaning.{Stands, Admits, Clash, DifferInOne}
use Rattle.sym_pred.specs.Answers.{IsAdded, AdmitsAdded}
use Rattle.sym_pred.proofs.EntriesLemmas.{is_Equal}
use Rattle.sym_pred.proofs.FactsLemmas.{atom_cmp-total, atom_cmp-IsAntisymmetric}

pub beq-true : (a b : Bool) → beq a b ≡ true → a ≡ b
beq-true true true e = refl
beq-true true false e = cc
beq-true false true e = cc
beq-true false false e = refl

pub beq-false : (a b : Bool) → beq a b ≡ false → a ≡ not b
beq-false true true e = cc
beq-false true false e = refl
beq-false false true e = refl
beq-false false false e = cc

pub not_both : {P : Type 0} (a : Bool) → a ≡ not a → P
not_both true e = cc
not_both false e = cc

-- Whether one atom is another.
pub same_atom : (a b : Atom) → eq_by_cmp atom_cmp a b ≡ true → a ≡ b
same_atom a b e = atom_cmp-IsAntisymmetric a b (is_Equal _ e)

pub itself : (a : Atom) → eq_by_cmp atom_cmp a a ≡ true
itself a = ap is_eq (tied_itself atom_cmp-total a)

pub other_atom : (a b : Atom) → eq_by_cmp atom_cmp a b ≡ false → a ≢ b
other_atom a b e same = let both : true ≡ false = sym (itself a) ∙ ap (λ (x : Atom). eq_by_cmp atom_cmp a x) same ∙ e in cc

-- Either the atoms are the same or they are not.
pub atoms : (a b : Atom) → (eq_by_cmp atom_cmp a b ≡ true) ⊎ (eq_by_cmp atom_cmp a b ≡ false)
atoms a b = elim (eq_by_cmp atom_cmp a b) as (λ t. (t ≡ true) ⊎ (t ≡ false)) [ true ↦ inl refl | false ↦ inr refl ]

pub one_outcome : (facts : FactMap) (atom : Atom) (a b : Bool) → Stands facts atom a → Stands facts atom b → a ≡ b
one_outcome facts atom a b p q = same_Some _ _ (sym p ∙ q)

-- ---- adding

pub inserted_here : (facts : FactMap) (atom : Atom) (v : Bool) → Stands (insert facts atom v) atom v
inserted_here facts atom v = get-insert atom_cmp-total facts atom v atom ∙ ap (λ t. cond t (Some v) (get facts atom)) (itself atom)

pub inserted_else : (facts : FactMap) (atom : Atom) (v : Bool) (q : Atom) → eq_by_cmp atom_cmp q atom ≡ false → get (insert facts atom v) q ≡ get facts q
inserted_else facts atom v q e = get-insert atom_cmp-total facts atom v q ∙ ap (λ t. cond t (Some v) (get facts q)) e

pub Admits-insert : (truth : Truth) (facts : FactMap) (atom : Atom) (v : Bool) (parts : List Value) → get facts atom ≡ None → Admits truth (insert facts atom v) parts ↔ (Admits truth facts parts × (truth atom.0 atom.1 parts ≡ v))
Admits-insert truth facts atom v parts none = (
  λ all. (
    λ a o stands. elim (atoms a atom) [
      | inl e ↦ let both : None ≡ Some o = sym none ∙ ap (λ (x : Atom). get facts x) (sym (same_atom a atom e)) ∙ stands in cc
      | inr e ↦ all a o (inserted_else facts atom v a e ∙ stands)
    ],
    all atom v (inserted_here facts atom v),
  ),
  λ both a o stands. elim (atoms a atom) [
    | inl e ↦
        let same = same_atom a atom e in
        ap (λ (x : Atom). truth x.0 x.1 parts) same ∙ both.1 ∙ same_Some _ _ (sym (inserted_here facts atom v) ∙ ap (λ (x : Atom). get (insert facts atom v) x) (sym same) ∙ stands)
    | inr e ↦ both.0 a o (sym (inserted_else facts atom v a e) ∙ stands)
  ],
)

pub AdmitsAdded-from_IsAdded : (facts : FactMap) (literal : Literal) (added : Added) → IsAdded facts literal added → (truth : Truth) (parts : List Value) → AdmitsAdded truth facts literal parts added
AdmitsAdded-from_IsAdded facts literal Same is truth parts = λ all. all (atom_of literal) literal.outcome is
AdmitsAdded-from_IsAdded facts literal Against is truth parts = λ all e. not_both literal.outcome (sym e ∙ all (atom_of literal) (not literal.outcome) is)
AdmitsAdded-from_IsAdded facts literal (Longer more) is truth parts =
    let longer = Admits-insert truth facts (atom_of literal) literal.outcome parts is.0 in (
      λ all. longer.0 (λ a o stands. all a o (ap (λ (m : FactMap). get m a) is.1 ∙ stands)),
      λ both a o stands. longer.1 both a o (ap (λ (m : FactMap). get m a) (sym is.1) ∙ stands),
    )

-- ---- meeting

pub Clash-nothing : (left right : FactMap) → Clash left right → (truth : Truth) (parts : List Value) → Admits truth left parts → ¬ (Admits truth right parts)
Clash-nothing left right clash truth parts one other = not_both clash.outcome (sym (one clash.atom clash.outcome clash.one) ∙ other clash.atom (not clash.outcome) clash.other)

pub Admits-meet : (left right both : FactMap) → ((atom : Atom) (outcome : Bool) → Stands both atom outcome ↔ (Stands left atom outcome ⊎ Stands right atom outcome)) → (truth : Truth) (parts : List Value) → Admits truth both parts ↔ (Admits truth left parts × Admits truth right parts)
Admits-meet left right both literals truth parts = (
  λ all. (λ a o stands. all a o ((literals a o).1 (inl stands)), λ a o stands. all a o ((literals a o).1 (inr stands))),
  λ each a o stands. elim ((literals a o).0 stands) [ inl one ↦ each.0 a o one | inr other ↦ each.1 a o other ],
)

-- ---- uniting

-- Facts that differ in one outcome are the same but for that literal.
pub insert-DifferInOne : (left right : FactMap) (differ : DifferInOne left right) → right ≡ insert left differ.atom (not differ.outcome)
insert-DifferInOne left right differ =
    same_map atom_cmp-total atom_cmp-IsAntisymmetric _ _ (λ q. elim (atoms q differ.atom) [
      | inl e ↦
          let same = same_atom q differ.atom e in
          ap (λ (x : Atom). get right x) same ∙ differ.other ∙ sym (ap (λ (x : Atom). get (insert left differ.atom (not differ.outcome)) x) same ∙ inserted_here left differ.atom (not differ.outcome))
      | inr e ↦ differ.rest q (other_atom q differ.atom e) ∙ sym (inserted_else left differ.atom (not differ.outcome) q e)
    ])

abbrev pub DifferInOne-insert : (left right : FactMap) (atom : Atom) (outcome : Bool) → Stands left atom outcome → right ≡ insert left atom (not outcome) → DifferInOne left right
DifferInOne-insert left right atom outcome one is = record {
  atom = atom;
  outcome = outcome;
  one = one;
  other = ap (λ (m : FactMap). get m atom) is ∙ inserted_here left atom (not outcome);
  rest = λ a different. ap (λ (m : FactMap). get m a) is ∙ elim (atoms a atom) [ inl e ↦ absurd (different (same_atom a atom e)) | inr e ↦ inserted_else left atom (not outcome) a e ];
}

module _ (left right union : FactMap) (differ : DifferInOne left right) (is : union ≡ remove left differ.atom) where
  removed_here : (a : Atom) → eq_by_cmp atom_cmp a differ.atom ≡ true → get union a ≡ None
  removed_here a e = ap (λ (m : FactMap). get m a) is ∙ get-remove atom_cmp-total left differ.atom a ∙ ap (λ t. cond t None (get left a)) e

  removed_else : (a : Atom) → eq_by_cmp atom_cmp a differ.atom ≡ false → get union a ≡ get left a
  removed_else a e = ap (λ (m : FactMap). get m a) is ∙ get-remove atom_cmp-total left differ.atom a ∙ ap (λ t. cond t None (get left a)) e

  pub Stands-union : (atom : Atom) (outcome : Bool) → Stands union atom outcome ↔ (Stands left atom outcome × Stands right atom outcome)
  Stands-union a o = (
    λ stands. elim (atoms a differ.atom) [
      | inl e ↦ let both : None ≡ Some o = sym (removed_here a e) ∙ stands in cc
      | inr e ↦ let one = sym (removed_else a e) ∙ stands in (one, differ.rest a (other_atom a differ.atom e) ∙ one)
    ],
    λ both. elim (atoms a differ.atom) [
      | inl e ↦
          let same = same_atom a differ.atom e in
          let here : o ≡ differ.outcome = one_outcome left differ.atom o differ.outcome (ap (λ (x : Atom). get left x) (sym same) ∙ both.0) differ.one in
          let there : o ≡ not differ.outcome = one_outcome right differ.atom o (not differ.outcome) (ap (λ (x : Atom). get right x) (sym same) ∙ both.1) differ.other in
          not_both differ.outcome (sym here ∙ there)
      | inr e ↦ removed_else a e ∙ both.0
    ],
  )

  -- With the literal's own outcome, the rest is all that a side asks.
  side : (facts : FactMap) (own : Bool) → Stands facts differ.atom own → ((a : Atom) → a ≢ differ.atom → get facts a ≡ get left a) → (truth : Truth) (parts : List Value) → truth differ.atom.0 differ.atom.1 parts ≡ own → Admits truth union parts → Admits truth facts parts
  side facts own stands rest truth parts e all a o here = elim (atoms a differ.atom) [
    | inl t ↦
        let same = same_atom a differ.atom t in
        ap (λ (x : Atom). truth x.0 x.1 parts) same ∙ e ∙ one_outcome facts differ.atom own o stands (ap (λ (x : Atom). get facts x) (sym same) ∙ here)
    | inr t ↦ all a o (removed_else a t ∙ sym (rest a (other_atom a differ.atom t)) ∙ here)
  ]

  pub Admits-union : (truth : Truth) (parts : List Value) → Admits truth union parts ↔ (Admits truth left parts ⊎ Admits truth right parts)
  Admits-union truth parts = (
    λ all. elim (beq (truth differ.atom.0 differ.atom.1 parts) differ.outcome) as (λ t. beq (truth differ.atom.0 differ.atom.1 parts) differ.outcome ≡ t → Admits truth left parts ⊎ Admits truth right parts) [
      | true ↦ λ e. inl (side left differ.outcome differ.one (λ a _. refl) truth parts (beq-true _ _ e) all)
      | false ↦ λ e. inr (side right (not differ.outcome) differ.other differ.rest truth parts (beq-false _ _ e) all)
    ] refl,
    λ either a o stands. let both = (Stands-union a o).0 stands in elim either [ inl one ↦ one a o both.0 | inr other ↦ other a o both.1 ],
  )

-- What a test of two outcomes tells.
pub differing : (a b : Bool) → not (beq a b) ≡ true → a ≡ not b
differing true true e = cc
differing true false e = refl
differing false true e = refl
differing false false e = cc

pub agreeing : (a b : Bool) → not (beq a b) ≡ false → a ≡ b
agreeing true true e = refl
agreeing true false e = cc
agreeing false true e = cc
agreeing false false e = refl
