use Rattle.std.proofs.Common.{◌≡◌, get_or, not, true, refl, sym, ap, subst, ◌∙◌, inl, inr, arith}
use Rattle.std.proofs.lemmas.Bool.{cases_eq}
use Rattle.std.proofs.lemmas.List.{get_or_default}
use Rattle.sym_pred.specs.Literals.{atom_of}
use Rattle.sym_pred.specs.Meaning.{Stands}
use Rattle.sym_pred.specs.declared.literal.Literal.{Literal}
use Rattle.sym_pred.proofs.facts.has_clash.Goals as goal

pub returns : goal.returns
returns c = (
  λ e. cc,
  λ a. absurd (c.literals.invariant a.0 a.1 (omega (arith, a.2)) (subst (λ (z : Literal). Stands c.args.other.now (atom_of z) (not z.outcome)) (sym a.3) a.4)),
)

pub returns-then-is_against : goal.returns-then-is_against
returns-then-is_against c = (
  λ _. (c.literals.literal-index, c.literal-item.result, c.literals-test.true, sym c.literal-item.is, c.is_against.ensures.0 c.if-is_against.true),
  λ _. refl,
)

pub literals-preserved : goal.literals-preserved
literals-preserved c = λ k d p stands.
    elim (cases_eq k c.literals.literal-index) [
      | inl e ↦
          let here : get_or c.args.literals.now k d ≡ c.literal-item.result = ap (λ j. get_or c.args.literals.now j d) e ∙ get_or_default c.args.literals.now c.literals.literal-index d c.literal-item.result c.literals-test.true ∙ sym c.literal-item.is in
          let against : c.is_against.result ≡ true = c.is_against.ensures.1 (subst (λ (z : Literal). Stands c.args.other.now (atom_of z) (not z.outcome)) here stands) in
          cc
      | inr ne ↦ c.literals.invariant k d (omega (arith, ne)) stands
    ]
