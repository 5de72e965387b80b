use Rattle.std.proofs.Common.{◌≡◌, ◌∙◌, ◌++◌, ◌∷◌, [], ℕ, List, ap, ap₂, sym, subst}
use Rattle.std.proofs.lemmas.List.Elements.{All-push}
use Rattle.sym_check.specs.Checking.CheckedScripts.{checked_plan}
use Rattle.sym_path.specs.Fitting.{SegmentFits}
use Rattle.sym_path.specs.declared.path.Path.{Path}
use Rattle.sym_run.specs.Chains.{SegmentsFit, SegmentsStandFor, SegmentsAreTight}
use Rattle.sym_run.proofs.ChainCuts.{IsCut, cut_composed, cut_whole}
use Rattle.sym_run.proofs.PushedSegments.{IsComposing, composing_more, pushed_of}
use Rattle.sym_run.proofs.TightChains.{all_front, few_composed, tight_front, tight_push}
use Rattle.sym_run.proofs.pushed.push_onto.Goals as goal

pub ends-preserved : goal.ends-preserved
ends-preserved c =
    let p = checked_plan c.args.checked.now in
    let limit : ℕ = c.args.limit in
    let front : List (List Path) = c.pop.new.self.items in
    let left : List Path = c.in-Some.left in
    let was : c.ends.segments.items ≡ front ++ left ∷ [] = c.in-Some.ensures.items in
    let composed = rw c.in-One.is at c.in_ok-both.ensures in
    record {
      fits = all_front (SegmentFits p) front left (subst (SegmentsFit p) was c.ends.invariant.fits);
      tight = tight_front p limit front left (subst (SegmentsAreTight p limit) was c.ends.invariant.tight);
      segment = composed.0.fits;
      few = few_composed p limit left c.ends.last c.in-One.both composed.0 composed.1;
      pushed =
          composing_more p limit c.args.segments.items c.args.segment front left c.ends.last c.in-One.both
          (subst (λ (ss : List (List Path)). IsComposing p limit c.args.segments.items c.args.segment ss c.ends.last) was c.ends.invariant.pushed) composed.0 composed.1;
      stands = λ first rest h k.
          cut_composed p (first ++ rest) front left c.ends.last c.in-One.both
          (subst (λ (ss : List (List Path)). IsCut p (first ++ rest) ss c.ends.last) was (c.ends.invariant.stands first rest h k)) composed.0.stands;
    }

-- The segments that stay apart are those that were there.
pub returns-in-Apart-clause-fits : goal.returns-in-Apart-clause-fits
returns-in-Apart-clause-fits c =
    let p = checked_plan c.args.checked.now in
    let front : List (List Path) = c.pop.new.self.items in
    let left : List Path = c.in-Some.left in
    let was : c.ends.segments.items ≡ front ++ left ∷ [] = c.in-Some.ensures.items in
    let apart = rw c.in-Apart.is at c.in_ok-both.ensures in
    let same : c.of.result ≡ (front ++ left ∷ []) ++ c.ends.last ∷ [] =
    c.of.ensures ∙ c.in_ok-push-in-Apart-2.ensures.items
    ∙ ap₂ (λ (ss : List (List Path)) (s : List Path). ss ++ s ∷ []) (c.in_ok-push-in-Apart.ensures.items ∙ ap (λ (s : List Path). front ++ s ∷ []) apart.0) apart.1 in
    subst (SegmentsFit p) (sym same)
    (All-push (SegmentFits p) (front ++ left ∷ []) c.ends.last (subst (SegmentsFit p) was c.ends.invariant.fits) c.ends.invariant.segment)

pub returns-in-Apart-clause-tight : goal.returns-in-Apart-clause-tight
returns-in-Apart-clause-tight c =
    let p = checked_plan c.args.checked.now in
    let limit : ℕ = c.args.limit in
    let front : List (List Path) = c.pop.new.self.items in
    let left : List Path = c.in-Some.left in
    let was : c.ends.segments.items ≡ front ++ left ∷ [] = c.in-Some.ensures.items in
    let apart = rw c.in-Apart.is at c.in_ok-both.ensures in
    let same : c.of.result ≡ (front ++ left ∷ []) ++ c.ends.last ∷ [] =
    c.of.ensures ∙ c.in_ok-push-in-Apart-2.ensures.items
    ∙ ap₂ (λ (ss : List (List Path)) (s : List Path). ss ++ s ∷ []) (c.in_ok-push-in-Apart.ensures.items ∙ ap (λ (s : List Path). front ++ s ∷ []) apart.0) apart.1 in
    subst (SegmentsAreTight p limit) (sym same)
    (tight_push p limit front left c.ends.last (subst (SegmentsAreTight p limit) was c.ends.invariant.tight) c.ends.invariant.few apart.2)

pub returns-in-Apart-clause-pushed : goal.returns-in-Apart-clause-pushed
returns-in-Apart-clause-pushed c =
    let p = checked_plan c.args.checked.now in
    let limit : ℕ = c.args.limit in
    let front : List (List Path) = c.pop.new.self.items in
    let left : List Path = c.in-Some.left in
    let was : c.ends.segments.items ≡ front ++ left ∷ [] = c.in-Some.ensures.items in
    let apart = rw c.in-Apart.is at c.in_ok-both.ensures in
    let same : c.of.result ≡ (front ++ left ∷ []) ++ c.ends.last ∷ [] =
    c.of.ensures ∙ c.in_ok-push-in-Apart-2.ensures.items
    ∙ ap₂ (λ (ss : List (List Path)) (s : List Path). ss ++ s ∷ []) (c.in_ok-push-in-Apart.ensures.items ∙ ap (λ (s : List Path). front ++ s ∷ []) apart.0) apart.1 in
    pushed_of p limit c.args.segments.items c.args.segment (front ++ left ∷ []) c.ends.last c.of.result
    (subst (λ (ss : List (List Path)). IsComposing p limit c.args.segments.items c.args.segment ss c.ends.last) was c.ends.invariant.pushed) same

pub returns-in-Apart-clause-stands : goal.returns-in-Apart-clause-stands
returns-in-Apart-clause-stands c = λ first rest h k.
    let p = checked_plan c.args.checked.now in
    let front : List (List Path) = c.pop.new.self.items in
    let left : List Path = c.in-Some.left in
    let was : c.ends.segments.items ≡ front ++ left ∷ [] = c.in-Some.ensures.items in
    let apart = rw c.in-Apart.is at c.in_ok-both.ensures in
    let same : c.of.result ≡ (front ++ left ∷ []) ++ c.ends.last ∷ [] =
    c.of.ensures ∙ c.in_ok-push-in-Apart-2.ensures.items
    ∙ ap₂ (λ (ss : List (List Path)) (s : List Path). ss ++ s ∷ []) (c.in_ok-push-in-Apart.ensures.items ∙ ap (λ (s : List Path). front ++ s ∷ []) apart.0) apart.1 in
    subst (SegmentsStandFor p (first ++ rest)) (sym same)
    (cut_whole p (first ++ rest) (front ++ left ∷ []) c.ends.last
    (subst (λ (ss : List (List Path)). IsCut p (first ++ rest) ss c.ends.last) was (c.ends.invariant.stands first rest h k)))
