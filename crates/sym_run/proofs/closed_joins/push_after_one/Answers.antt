use Rattle.std.proofs.Common.{◌≡◌, ◌∙◌, ◌++◌, ◌∷◌, [], List, ap₂, refl, sym, subst}
use Rattle.sym_check.specs.Checking.CheckedScripts.{checked_plan}
use Rattle.sym_path.specs.declared.path.Path.{Path}
use Rattle.sym_run.specs.Chains.{SegmentsAreTight}
use Rattle.sym_run.proofs.ChainCuts.{cut_of, cut_whole}
use Rattle.sym_run.proofs.TightChains.{few_composed, tight_one, tight_push}
use Rattle.sym_run.proofs.closed_joins.push_after_one.Goals as goal

pub returns-in-One-clause-tight : goal.returns-in-One-clause-tight
returns-in-One-clause-tight c = λ first rest left right few_left few_right.
    let p = checked_plan c.args.checked.now in
    let composed = rw c.in-One.is at c.in_ok-both.ensures in
    rw c.of_one.ensures (tight_one p c.args.limit c.in-One.both (few_composed p c.args.limit c.args.left c.args.right c.in-One.both composed.0 composed.1))

pub returns-in-One-clause-stands : goal.returns-in-One-clause-stands
returns-in-One-clause-stands c = λ first rest left right.
    let p = checked_plan c.args.checked.now in
    let composed = rw c.in-One.is at c.in_ok-both.ensures in
    rw c.of_one.ensures (cut_whole p (first ++ rest) [] c.in-One.both (cut_of p [] (first ++ rest) [] c.in-One.both refl (composed.0.stands first rest left right)))

pub returns-in_ok-push-in-Apart-2-clause-tight : goal.returns-in_ok-push-in-Apart-2-clause-tight
returns-in_ok-push-in-Apart-2-clause-tight c = λ first rest left right few_left few_right.
    let p = checked_plan c.args.checked.now in
    let apart = rw c.in-Apart.is at c.in_ok-both.ensures in
    let more = λ (ss : List (List Path)) (s : List Path). ss ++ s ∷ [] in
    let same : c.of.result ≡ ([] ++ c.args.left ∷ []) ++ c.args.right ∷ [] =
    c.of.ensures ∙ c.in_ok-push-in-Apart-2.ensures.items
    ∙ ap₂ more (c.in_ok-push-in-Apart.ensures.items ∙ ap₂ more c.in_ok-segments-in-Apart.ensures.items apart.0) apart.1 in
    subst (SegmentsAreTight p c.args.limit) (sym same)
    (tight_push p c.args.limit [] c.args.left c.args.right (tight_one p c.args.limit c.args.left few_left) few_right (apart.2 first rest left right))
