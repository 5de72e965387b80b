use Rattle.std.proofs.Common.{◌<◌, length, get_or, refl, sym, ap, subst, ◌∙◌, inr, arith}
use Rattle.std.specs.FinMap.{remove}
use Rattle.sym_pred.specs.declared.facts.Difference.TheVariants.{One, Many}
use Rattle.sym_pred.specs.Facts.{Atom}
use Rattle.sym_pred.specs.Literals.{atom_of, literals}
use Rattle.sym_pred.specs.Differences.{IsDifference}
use Rattle.sym_pred.proofs.FactsLemmas.{literals_of_view}
use Rattle.sym_pred.proofs.MeaningLemmas.{Stands-union, Admits-union}
use Rattle.sym_pred.proofs.DifferenceLemmas.{some_literal, DifferInOne-One, DifferInOne-One-atom, not_Unite-Many}
use Rattle.sym_pred.proofs.facts.Facts.united_with.Goals as goal

pub without-requires : goal.without-requires
without-requires c =
    let differ : IsDifference c.self.inside.literals c.other.inside.literals (One c.in-One.index) = subst (λ xs. IsDifference xs c.other.inside.literals (One c.in-One.index)) c.as_slice.ensures (subst (λ ys. IsDifference c.as_slice.result.now ys (One c.in-One.index)) c.as_slice-2.ensures c.in-One.ensures) in
    let inside : c.in-One.index < length (literals c.args.self) = subst (λ xs. c.in-One.index < length xs) (sym (literals_of_view _ _ c.self.invariant c.self.view_is)) differ.0 in
    omega (arith, inside)

pub returns-in-One-clause-none : goal.returns-in-One-clause-none
returns-in-One-clause-none c =
    let differ : IsDifference c.self.inside.literals c.other.inside.literals (One c.in-One.index) = subst (λ xs. IsDifference xs c.other.inside.literals (One c.in-One.index)) c.as_slice.ensures (subst (λ ys. IsDifference c.as_slice.result.now ys (One c.in-One.index)) c.as_slice-2.ensures c.in-One.ensures) in
    (λ _. inr (DifferInOne-One c.args.self c.args.other.now _ _ c.self.invariant c.other.invariant c.self.view_is c.other.view_is c.in-One.index some_literal differ.0 (differ.1 some_literal)), λ _. refl)

pub returns-in-One-clause-literals : goal.returns-in-One-clause-literals
returns-in-One-clause-literals c =
    let differ : IsDifference c.self.inside.literals c.other.inside.literals (One c.in-One.index) = subst (λ xs. IsDifference xs c.other.inside.literals (One c.in-One.index)) c.as_slice.ensures (subst (λ ys. IsDifference c.as_slice.result.now ys (One c.in-One.index)) c.as_slice-2.ensures c.in-One.ensures) in
    Stands-union c.args.self c.args.other.now _
    (DifferInOne-One c.args.self c.args.other.now _ _ c.self.invariant c.other.invariant c.self.view_is c.other.view_is c.in-One.index some_literal differ.0 (differ.1 some_literal))
    (c.without.ensures some_literal ∙ ap (λ xs. remove c.args.self (atom_of (get_or xs c.in-One.index some_literal))) (literals_of_view _ _ c.self.invariant c.self.view_is)
    ∙ ap (λ (a : Atom). remove c.args.self a) (sym (DifferInOne-One-atom c.args.self c.args.other.now _ _ c.self.invariant c.other.invariant c.self.view_is c.other.view_is c.in-One.index some_literal differ.0 (differ.1 some_literal))))

pub returns-in-One-clause-admits : goal.returns-in-One-clause-admits
returns-in-One-clause-admits c =
    let differ : IsDifference c.self.inside.literals c.other.inside.literals (One c.in-One.index) = subst (λ xs. IsDifference xs c.other.inside.literals (One c.in-One.index)) c.as_slice.ensures (subst (λ ys. IsDifference c.as_slice.result.now ys (One c.in-One.index)) c.as_slice-2.ensures c.in-One.ensures) in
    Admits-union c.args.self c.args.other.now _
    (DifferInOne-One c.args.self c.args.other.now _ _ c.self.invariant c.other.invariant c.self.view_is c.other.view_is c.in-One.index some_literal differ.0 (differ.1 some_literal))
    (c.without.ensures some_literal ∙ ap (λ xs. remove c.args.self (atom_of (get_or xs c.in-One.index some_literal))) (literals_of_view _ _ c.self.invariant c.self.view_is)
    ∙ ap (λ (a : Atom). remove c.args.self a) (sym (DifferInOne-One-atom c.args.self c.args.other.now _ _ c.self.invariant c.other.invariant c.self.view_is c.other.view_is c.in-One.index some_literal differ.0 (differ.1 some_literal))))

pub returns-in-Many-clause-none : goal.returns-in-Many-clause-none
returns-in-Many-clause-none c =
    let many : IsDifference c.self.inside.literals c.other.inside.literals Many = subst (λ xs. IsDifference xs c.other.inside.literals Many) c.as_slice.ensures (subst (λ ys. IsDifference c.as_slice.result.now ys Many) c.as_slice-2.ensures c.in-Many.ensures) in
    (λ e. cc, λ u. absurd (not_Unite-Many c.args.self c.args.other.now _ _ c.self.invariant c.other.invariant c.self.view_is c.other.view_is many u))
