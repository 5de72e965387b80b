use Rattle.std.proofs.Common.{refl, subst, inr}
use Rattle.sym_pred.specs.declared.facts.Difference.TheVariants.{One, Many}
use Rattle.sym_pred.specs.Differences.{IsDifference}
use Rattle.sym_pred.proofs.DifferenceLemmas.{some_literal, DifferInOne-One, not_Unite-Many}
use Rattle.sym_pred.proofs.facts.Facts.unites.Goals as goal

pub returns-in-One : goal.returns-in-One
returns-in-One c =
    let differ : IsDifference c.self.inside.literals c.other.inside.literals (One c.in-One.field-0) = subst (λ xs. IsDifference xs c.other.inside.literals (One c.in-One.field-0)) c.as_slice.ensures (subst (λ ys. IsDifference c.as_slice.result.now ys (One c.in-One.field-0)) c.as_slice-2.ensures c.in-One.ensures) in
    (λ _. inr (DifferInOne-One c.args.self.now c.args.other.now _ _ c.self.invariant c.other.invariant c.self.view_is c.other.view_is c.in-One.field-0 some_literal differ.0 (differ.1 some_literal)), λ _. refl)

pub returns-in-Many : goal.returns-in-Many
returns-in-Many c =
    let many : IsDifference c.self.inside.literals c.other.inside.literals Many = subst (λ xs. IsDifference xs c.other.inside.literals Many) c.as_slice.ensures (subst (λ ys. IsDifference c.as_slice.result.now ys Many) c.as_slice-2.ensures c.in-Many.ensures) in
    (λ e. cc, λ u. absurd (not_Unite-Many c.args.self.now c.args.other.now _ _ c.self.invariant c.other.invariant c.self.view_is c.other.view_is many u))
