use Rattle.std.proofs.Common.{List, map, refl, sym, ap, subst}
use Rattle.std.specs.FinMap.{from_sorted}
use Rattle.sym_pred.specs.declared.literal.Literal.{Literal}
use Rattle.sym_pred.specs.Facts.{atom_cmp}
use Rattle.sym_pred.specs.Literals.{entry_of}
use Rattle.sym_pred.specs.Merges.{ClashIn, IsMerged}
use Rattle.sym_pred.specs.Places.{IsInOrder}
use Rattle.sym_pred.proofs.MeaningLemmas.{Clash-nothing, Admits-meet}
use Rattle.sym_pred.proofs.MergedLemmas.{Clash-merged, not_Clash-merged, Stands-merged}
use Rattle.sym_pred.proofs.facts.Facts.meet.Goals as goal

pub returns-then-clashes-clause-none : goal.returns-then-clashes-clause-none
returns-then-clashes-clause-none c = (λ _. c.clashes.ensures.0 c.if-clashes.true, λ _. refl)

pub returns-then-clashes-clause-nothing : goal.returns-then-clashes-clause-nothing
returns-then-clashes-clause-nothing c = Clash-nothing c.args.self.now c.args.other.now (c.clashes.ensures.0 c.if-clashes.true)

pub invariant_of-result : goal.invariant_of-result
invariant_of-result c =
    let merged = rw c.in-Some.is at c.in_ok-merge.ensures in
    subst IsInOrder (sym c.of.ensures) merged.in_order

pub returns-in-None-clause-none : goal.returns-in-None-clause-none
returns-in-None-clause-none c =
    let clash = rw c.in-None.is at c.in_ok-merge.ensures in
    let inside : ClashIn c.self.inside.literals c.other.inside.literals = subst (λ (xs : List Literal). ClashIn xs c.other.inside.literals) c.as_slice.ensures (subst (λ (ys : List Literal). ClashIn c.as_slice.result.now ys) c.as_slice-2.ensures clash) in
    (λ _. Clash-merged c.args.self.now c.args.other.now _ _ c.self.invariant c.other.invariant c.self.view_is c.other.view_is inside, λ _. refl)

pub returns-in-None-clause-nothing : goal.returns-in-None-clause-nothing
returns-in-None-clause-nothing c = Clash-nothing c.args.self.now c.args.other.now ((returns-in-None-clause-none c).0 refl)

pub returns-in-Some-clause-none : goal.returns-in-Some-clause-none
returns-in-Some-clause-none c =
    let merged = rw c.in-Some.is at c.in_ok-merge.ensures in
    let all : IsMerged c.self.inside.literals c.other.inside.literals c.in-Some.all.items = subst (λ (xs : List Literal). IsMerged xs c.other.inside.literals c.in-Some.all.items) c.as_slice.ensures (subst (λ (ys : List Literal). IsMerged c.as_slice.result.now ys c.in-Some.all.items) c.as_slice-2.ensures merged) in
    (λ e. cc, λ clash. absurd (not_Clash-merged c.args.self.now c.args.other.now _ _ c.self.invariant c.other.invariant c.self.view_is c.other.view_is c.in-Some.all.items all clash))

pub returns-in-Some-clause-literals : goal.returns-in-Some-clause-literals
returns-in-Some-clause-literals c =
    let merged = rw c.in-Some.is at c.in_ok-merge.ensures in
    let all : IsMerged c.self.inside.literals c.other.inside.literals c.in-Some.all.items = subst (λ (xs : List Literal). IsMerged xs c.other.inside.literals c.in-Some.all.items) c.as_slice.ensures (subst (λ (ys : List Literal). IsMerged c.as_slice.result.now ys c.in-Some.all.items) c.as_slice-2.ensures merged) in
    Stands-merged c.args.self.now c.args.other.now _ _ c.self.invariant c.other.invariant c.self.view_is c.other.view_is c.in-Some.all.items _
    (ap (λ (xs : List Literal). from_sorted {R = atom_cmp} (map entry_of xs)) (sym c.of.ensures)) all

pub returns-in-Some-clause-admits : goal.returns-in-Some-clause-admits
returns-in-Some-clause-admits c = Admits-meet c.args.self.now c.args.other.now _ (returns-in-Some-clause-literals c)
