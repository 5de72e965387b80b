-- Facts to which literals are added one after another.
use Rattle.std.proofs.Common.{◌≡◌, ◌<◌, ◌≤◌, ◌+◌, ◌↔◌, ◌⊎◌, ℕ, Bool, true, false, not, List, length, get_or, refl, sym, ap, ◌∙◌, subst, inl, inr, arith}
use Rattle.std.specs.List.{Any}
use Rattle.sym_pred.specs.declared.literal.Literal.{Literal}
use Rattle.sym_pred.specs.Facts.{Atom, FactMap}
use Rattle.sym_pred.specs.Literals.{atom_of, literals}
use Rattle.sym_pred.specs.Meaning.{Stands, Admits, Clash}
use Rattle.sym_base.specs.declared.values.value.Value.{Value}
use Rattle.sym_base.specs.Tests.{Truth}
use Rattle.sym_pred.specs.Answers.{Says, IsWith, AreWith, AreAgainst}
use Rattle.std.specs.FinMap.{get, insert}
use Rattle.std.specs.Prelude.{Option, Some, None, Result, Ok, Err, OnErr, IsNone, IfSome, IfNone}
use Rattle.std.specs.Option.{MatchOption}
use Rattle.sym_pred.proofs.CallersLemmas.{literal_stands, stands_at}
use Rattle.sym_pred.proofs.DifferenceLemmas.{some_literal}
use Rattle.sym_pred.proofs.MeaningLemmas.{atoms, same_atom, inserted_here, inserted_else, one_outcome, not_both, Clash-nothing, Admits-meet}
use Rattle.std.proofs.lemmas.Bool.{cases_lt}
use Rattle.std.proofs.lemmas.List.{get_or_default}
use Rattle.std.proofs.lemmas.Option.{same_Some}

pub not_not : (a : Bool) → not (not a) ≡ a
not_not true = refl
not_not false = refl

-- What holds is so of each result.
pub err_holds : {A E P : Type 0} → (result : Result A E) → P → OnErr result P
err_holds (Ok value) holds = tt
err_holds (Err error) holds = holds

-- The facts with one literal.
pub inserted_with : (facts more : FactMap) (x : Literal) → get facts (atom_of x) ≡ None → more ≡ insert facts (atom_of x) x.outcome → IsWith facts x more
inserted_with facts more x none is a o = (
  λ stands. elim (atoms a (atom_of x)) [
    | inl e ↦
        let same = same_atom a (atom_of x) e in
        inr (same, same_Some _ _ (sym (sym (inserted_here facts (atom_of x) x.outcome) ∙ ap (λ (m : FactMap). get m (atom_of x)) (sym is) ∙ ap (λ (y : Atom). get more y) (sym same) ∙ stands)))
    | inr e ↦ inl (sym (inserted_else facts (atom_of x) x.outcome a e) ∙ ap (λ (m : FactMap). get m a) (sym is) ∙ stands)
  ],
  λ either. elim either [
    | inl known ↦ elim (atoms a (atom_of x)) [
      | inl e ↦ let both : None ≡ Some o = sym none ∙ ap (λ (y : Atom). get facts y) (sym (same_atom a (atom_of x) e)) ∙ known in cc
      | inr e ↦ ap (λ (m : FactMap). get m a) is ∙ inserted_else facts (atom_of x) x.outcome a e ∙ known
    ]
    | inr says ↦ ap (λ (m : FactMap). get m a) is ∙ ap (λ (y : Atom). get (insert facts (atom_of x) x.outcome) y) says.0 ∙ inserted_here facts (atom_of x) x.outcome ∙ ap Some (sym says.1)
  ],
)

pub same_with : (facts : FactMap) (x : Literal) (outcome : Bool) → get facts (atom_of x) ≡ Some outcome → outcome ≡ x.outcome → IsWith facts x facts
same_with facts x outcome stands same a o = (
  λ known. inl known,
  λ either. elim either [
    | inl known ↦ known
    | inr says ↦ ap (λ (y : Atom). get facts y) says.0 ∙ stands ∙ ap Some (same ∙ sym says.1)
  ],
)

-- ---- literal by literal

-- One of the first n literals gives the atom this outcome.
abbrev pub SaidBelow : List Literal → ℕ → Atom → Bool → Type 0
SaidBelow xs n atom outcome = (k : ℕ) × (x : Literal) × (k < n) × (k < length xs) × (get_or xs k x ≡ x) × Says atom outcome x

-- The facts have the literals of the first ones, and the first n of the list.
abbrev pub AreWithFirst : FactMap → List Literal → ℕ → FactMap → Type 0
AreWithFirst start xs n facts = (atom : Atom) (outcome : Bool) → Stands facts atom outcome ↔ (Stands start atom outcome ⊎ SaidBelow xs n atom outcome)

pub with_none : (start : FactMap) (xs : List Literal) → AreWithFirst start xs 0 start
with_none start xs atom outcome = (
  λ stands. inl stands,
  λ either. elim either [ inl known ↦ known | inr said ↦ absurd (let below = said.2 in omega arith) ],
)

module _ (start facts : FactMap) (xs : List Literal) (i : ℕ) (so_far : AreWithFirst start xs i facts) (x : Literal) (within : i < length xs) (is : x ≡ get_or xs i x) where
  pub with_next : (more : FactMap) → IsWith facts x more → AreWithFirst start xs (i + 1) more
  with_next more added atom outcome = (there, back)
    where
      wider : SaidBelow xs i atom outcome → SaidBelow xs (i + 1) atom outcome
      wider said = let below = said.2 in (said.0, said.1, omega arith, said.3, said.4, said.5)

      there : Stands more atom outcome → Stands start atom outcome ⊎ SaidBelow xs (i + 1) atom outcome
      there stands = elim ((added atom outcome).0 stands) [
        | inl known ↦ elim ((so_far atom outcome).0 known) [ inl first ↦ inl first | inr said ↦ inr (wider said) ]
        | inr says ↦ inr (i, x, omega arith, within, sym is, says)
      ]

      here : (k : ℕ) (y : Literal) → k ≡ i → get_or xs k y ≡ y → y ≡ x
      here k y e at = sym at ∙ ap (λ j. get_or xs j y) e ∙ get_or_default xs i y x within ∙ sym is

      last : SaidBelow xs (i + 1) atom outcome → Stands more atom outcome
      last said = elim (by_place said.0 said.2) [
        | inl below ↦ (added atom outcome).1 (inl ((so_far atom outcome).1 (inr (said.0, said.1, below, said.3, said.4, said.5))))
        | inr same ↦ (added atom outcome).1 (inr (subst (λ (y : Literal). Says atom outcome y) (here said.0 said.1 same said.4) said.5))
      ]
        where
          by_place : (k : ℕ) → k < i + 1 → (k < i) ⊎ (k ≡ i)
          by_place k below = elim (cases_lt k i) [ inl less ↦ inl less | inr more ↦ inr (omega arith) ]

      back : Stands start atom outcome ⊎ SaidBelow xs (i + 1) atom outcome → Stands more atom outcome
      back (inl first) = (added atom outcome).1 (inl ((so_far atom outcome).1 (inl first)))
      back (inr said) = last said

  pub with_against : Stands facts (atom_of x) (not x.outcome) → AreAgainst start xs
  with_against stands = (
    i,
    x,
    within,
    sym is,
    elim ((so_far (atom_of x) (not x.outcome)).0 stands) [
      | inl first ↦ inl first
      | inr said ↦ inr (said.0, said.1, said.3, said.4, said.5)
    ],
  )

  -- A literal that is new to the facts is new to the first ones.
  pub with_new : get facts (atom_of x) ≡ None → Any (λ (literal : Literal). get start (atom_of literal) ≡ None) xs
  with_new none = (i, x, within, sym is, known (get start (atom_of x)) refl)
    where
      known : (found : Option Bool) → get start (atom_of x) ≡ found → get start (atom_of x) ≡ None
      known None at = at
      known (Some outcome) at =
          let both : Some outcome ≡ None = sym ((so_far (atom_of x) outcome).1 (inl at)) ∙ none in
          cc

pub with_whole : (start facts : FactMap) (xs : List Literal) (i : ℕ) → AreWithFirst start xs i facts → length xs ≤ i → AreWith start xs facts
with_whole start facts xs i so_far past atom outcome = (
  λ stands. elim ((so_far atom outcome).0 stands) [ inl first ↦ inl first | inr said ↦ inr (said.0, said.1, said.3, said.4, said.5) ],
  λ either. elim either [
    | inl first ↦ (so_far atom outcome).1 (inl first)
    | inr any ↦ (so_far atom outcome).1 (inr (any.0, any.1, (let below = any.2 in omega arith), any.2, any.3, any.4))
  ],
)

-- ---- the literals of facts

pub said_stands : (facts : FactMap) (atom : Atom) (outcome : Bool) → Any (Says atom outcome) (literals facts) → Stands facts atom outcome
said_stands facts atom outcome any =
    let here : Stands facts (atom_of any.1) any.1.outcome = subst (λ (z : Literal). Stands facts (atom_of z) z.outcome) any.3 (literal_stands facts any.0 any.1 any.2) in
    ap (λ (a : Atom). get facts a) any.4.0 ∙ here ∙ ap Some (sym any.4.1)

pub stands_said : (facts : FactMap) (atom : Atom) (outcome : Bool) → Stands facts atom outcome → Any (Says atom outcome) (literals facts)
stands_said facts atom outcome stands =
    let place = stands_at facts atom outcome stands in
    let found = place.2 some_literal in
    let l : Literal = get_or (literals facts) place.0 some_literal in
    (place.0, l, place.1, get_or_default (literals facts) place.0 l some_literal place.1, (sym found.0, sym found.1))

-- Facts with all literals of others have those of both,
pub with_both : (left right more : FactMap) → AreWith left (literals right) more → (atom : Atom) (outcome : Bool) → Stands more atom outcome ↔ (Stands left atom outcome ⊎ Stands right atom outcome)
with_both left right more added atom outcome = (
  λ stands. elim ((added atom outcome).0 stands) [ inl one ↦ inl one | inr any ↦ inr (said_stands right atom outcome any) ],
  λ either. (added atom outcome).1 (elim either [ inl one ↦ inl one | inr other ↦ inr (stands_said right atom outcome other) ]),
)

-- and where there are such, the two don't clash.
pub with_no_clash : (left right more : FactMap) → AreWith left (literals right) more → Clash left right → ⊥
with_no_clash left right more added clash =
    let both = with_both left right more added in
    not_both clash.outcome (one_outcome more clash.atom clash.outcome (not clash.outcome) ((both clash.atom clash.outcome).1 (inl clash.one)) ((both clash.atom (not clash.outcome)).1 (inr clash.other)))

pub against_clash : (left right : FactMap) → AreAgainst left (literals right) → Clash left right
against_clash left right any =
    let x : Literal = any.1 in
    let own : Stands right (atom_of x) x.outcome = subst (λ (z : Literal). Stands right (atom_of z) z.outcome) any.3 (literal_stands right any.0 x any.2) in
    elim any.4 [
      | inl one ↦ record { atom = atom_of x; outcome = not x.outcome; one = one; other = own ∙ ap Some (sym (not_not x.outcome)) }
      | inr said ↦ absurd (not_both x.outcome (one_outcome right (atom_of x) x.outcome (not x.outcome) own (said_stands right (atom_of x) (not x.outcome) said)))
    ]

-- ---- facts that meet others

module _ (left right : FactMap) (xs : List Literal) (view : xs ≡ literals right) where
  all_there : (more : FactMap) → AreWith left xs more → AreWith left (literals right) more
  all_there more h = subst (λ (ys : List Literal). AreWith left ys more) view h

  clash_there : AreAgainst left xs → Clash left right
  clash_there h = against_clash left right (subst (λ (ys : List Literal). AreAgainst left ys) view h)

  pub met_none : (found : Option FactMap) → MatchOption found (AreAgainst left xs) (AreWith left xs) → IsNone found ↔ Clash left right
  met_none None h = (λ _. clash_there h, λ _. refl)
  met_none (Some more) h = (λ e. cc, λ clash. absurd (with_no_clash left right more (all_there more h) clash))

  pub met_literals : (found : Option FactMap) → MatchOption found (AreAgainst left xs) (AreWith left xs) → IfSome found (λ facts. (atom : Atom) (outcome : Bool) → Stands facts atom outcome ↔ (Stands left atom outcome ⊎ Stands right atom outcome))
  met_literals None h = tt
  met_literals (Some more) h = with_both left right more (all_there more h)

  pub met_admits : (found : Option FactMap) → MatchOption found (AreAgainst left xs) (AreWith left xs) → IfSome found (λ facts. (truth : Truth) (parts : List Value) → Admits truth facts parts ↔ (Admits truth left parts × Admits truth right parts))
  met_admits None h = tt
  met_admits (Some more) h = Admits-meet left right more (with_both left right more (all_there more h))

  pub met_nothing : (found : Option FactMap) → MatchOption found (AreAgainst left xs) (AreWith left xs) → IfNone found ((truth : Truth) (parts : List Value) → Admits truth left parts → ¬ (Admits truth right parts))
  met_nothing None h = Clash-nothing left right (clash_there h)
  met_nothing (Some more) h = tt
