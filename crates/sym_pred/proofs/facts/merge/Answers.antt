use Rattle.std.proofs.Common.{rules, arith, ◌≡◌, ◌∙◌, ap, sym, subst, inl, inr, Option, Some, None, ◌++◌, drop, List}
use Rattle.std.proofs.lemmas.Grind.{common_steps}
use Rattle.std.specs.Option.{MatchOption}
use Rattle.sym_pred.specs.Merges.{ClashIn, IsMerged}
use Rattle.sym_pred.specs.declared.literal.Literal.{Literal}
use Rattle.sym_pred.proofs.Merged.{merged}
use Rattle.sym_pred.proofs.MergedLemmas.{merged-end, merged-is, rest_of}
use Rattle.sym_pred.proofs.facts.merge.Goals as goal
use Rattle.sym_pred.proofs.facts.merge.Goals.{then-literals-test+else-gone-right, else-literals-test}

pub returns : goal.returns
returns c =
    subst (λ (o : Option (List Literal)). MatchOption o (ClashIn c.args.left.now c.args.right.now) (IsMerged c.args.left.now c.args.right.now))
    (sym (ap (λ (xs : List Literal). Some xs) (c.in_ok-push_copies-2.ensures ∙ (λ i. (c.in_ok-push_copies.ensures i) ++ rest_of c.args.right.now c.literals.gone i) ∙ ap (λ (xs : List Literal). (c.literals.all.items ++ xs) ++ drop c.literals.gone c.args.right.now) (rest_of c.args.left.now c.literals.done))
    ∙ merged-end _ _ c.literals.all.items c.literals.done c.literals.gone
    (elim c.literals-test.branch [ then-literals-test+else-gone-right w ↦ inr w.if-gone-right.false | else-literals-test w ↦ inl w.literals-test.false ])
    c.literals.invariant.2))
    (merged-is c.args.left.now c.args.right.now c.requires.left_order c.requires.right_order)

pub returns-then-one-other : goal.returns-then-one-other
returns-then-one-other c =
    let failed : None ≡ merged c.args.left.now c.args.right.now = first_of (search rules, grind (arith, common_steps)) in
    subst (λ (o : Option (List Literal)). MatchOption o (ClashIn c.args.left.now c.args.right.now) (IsMerged c.args.left.now c.args.right.now)) (sym failed)
    (merged-is c.args.left.now c.args.right.now c.requires.left_order c.requires.right_order)
