use Rattle.std.proofs.Common.{◌≡◌, ◌++◌, ◌∷◌, ◌∙◌, List, [], ap₂, refl}
use Rattle.sym_check.specs.Checking.CheckedScripts.{checked_plan}
use Rattle.sym_path.specs.declared.path.Path.{Path}
use Rattle.sym_run.proofs.ChainCuts.{cut_of, cut_whole}
use Rattle.sym_run.proofs.PushedSegments.{composing_more, composing_none, pushed_of}
use Rattle.sym_run.proofs.TightChains.{few_composed, tight_one}
use Rattle.sym_run.proofs.pushed.push_onto_one.Goals as goal

pub returns-in-One-clause-tight : goal.returns-in-One-clause-tight
returns-in-One-clause-tight c =
    let p = checked_plan c.args.checked.now in
    let composed = rw c.in-One.is at c.in_ok-both.ensures in
    rw c.of_one.ensures (tight_one p c.args.limit c.in-One.both (few_composed p c.args.limit c.args.left c.args.right c.in-One.both composed.0 composed.1))

pub returns-in-One-clause-stands : goal.returns-in-One-clause-stands
returns-in-One-clause-stands c = λ first rest left right.
    let p = checked_plan c.args.checked.now in
    let composed = rw c.in-One.is at c.in_ok-both.ensures in
    rw c.of_one.ensures (cut_whole p (first ++ rest) [] c.in-One.both (cut_of p [] (first ++ rest) [] c.in-One.both refl (composed.0.stands first rest left right)))

pub returns-in-One-clause-pushed : goal.returns-in-One-clause-pushed
returns-in-One-clause-pushed c =
    let p = checked_plan c.args.checked.now in
    let composed = rw c.in-One.is at c.in_ok-both.ensures in
    let one : List (List Path) = c.args.left ∷ [] in
    pushed_of p c.args.limit one c.args.right [] c.in-One.both c.of_one.result
    (composing_more p c.args.limit one c.args.right [] c.args.left c.args.right c.in-One.both (composing_none p c.args.limit one c.args.right) composed.0 composed.1) c.of_one.ensures

pub returns-in_ok-push-in-Apart-2-clause-pushed : goal.returns-in_ok-push-in-Apart-2-clause-pushed
returns-in_ok-push-in-Apart-2-clause-pushed c =
    let p = checked_plan c.args.checked.now in
    let apart = rw c.in-Apart.is at c.in_ok-both.ensures in
    let one : List (List Path) = c.args.left ∷ [] in
    let same : c.of.result ≡ one ++ c.args.right ∷ [] =
    c.of.ensures ∙ c.in_ok-push-in-Apart-2.ensures.items
    ∙ ap₂ (λ (ss : List (List Path)) (s : List Path). ss ++ s ∷ [])
    (c.in_ok-push-in-Apart.ensures.items ∙ ap₂ (λ (ss : List (List Path)) (s : List Path). ss ++ s ∷ []) c.in_ok-segments-in-Apart.ensures.items apart.0) apart.1 in
    pushed_of p c.args.limit one c.args.right one c.args.right c.of.result (composing_none p c.args.limit one c.args.right) same
