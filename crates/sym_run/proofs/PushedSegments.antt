-- Segments that are pushed onto others, and what holds of neighbours in tight chains.
use Rattle.std.proofs.Common.{◌≡◌, ◌∙◌, ◌<◌, ◌≤◌, ◌+◌, ℕ, ap, ap₂, max, refl, sym, subst, arith, List, [], ◌∷◌, ◌++◌, Some, length, get_or}
use Rattle.std.proofs.lemmas.List.{append_assoc, append-nil, get_or_append_left, get_or_push, length-append, length_push, same_from_push}
use Rattle.std.proofs.lemmas.Option.{get_or_from_slice_get, slice_get_within}
use Rattle.std.specs.List.{AllAdjacentBelow}
use Rattle.std.specs.Prelude.{slice_get}
use Rattle.sym_check.specs.Meaning.Conditions.{test_truth}
use Rattle.sym_check.specs.Meaning.PathBounds.{path_bound}
use Rattle.sym_check.specs.Plan.ScriptPlans.{ScriptPlan}
use Rattle.sym_path.specs.declared.path.Path.{Path}
use Rattle.sym_path.specs.Composing.{IsComposition}
use Rattle.sym_path.specs.Pairs.{ArePairs}
use Rattle.sym_path.specs.Within.{HaveFewPairs, HaveMorePairs}
use Rattle.sym_path.proofs.Lists.{all_at}
use Rattle.sym_path.proofs.PairsWithin.{more_number, never_both, few_number}
use Rattle.sym_run.specs.Chained.{Chained}
use Rattle.sym_run.specs.Chains.{AreApart, HasFewPaths, IsTight, SegmentsAreTight}
use Rattle.sym_run.specs.Pushing.{AreComposedTo, IsPushed}

-- ---- pushing
-- The segments that are left, and those that were composed to the last one.
pub record IsComposing (p : ScriptPlan) (limit : ℕ) (segments : List (List Path)) (segment : List Path) (left : List (List Path)) (last : List Path) : Type 0 where
  pub others : List (List Path)
  pub cut : segments ≡ left ++ others
  pub composed : AreComposedTo p limit others segment last

pub composing_none : (p : ScriptPlan) (limit : ℕ) (segments : List (List Path)) (segment : List Path) → IsComposing p limit segments segment segments segment
composing_none p limit segments segment = record { others = []; cut = sym (append-nil segments); composed = refl }

pub composing_more : (p : ScriptPlan) (limit : ℕ) (segments : List (List Path)) (segment : List Path) (front : List (List Path)) (left last both : List Path) → IsComposing p limit segments segment (front ++ left ∷ []) last
    → IsComposition p left last both → HaveFewPairs (test_truth p.tests) left last limit → IsComposing p limit segments segment front both
composing_more p limit segments segment front left last both h is few = record {
  others = left ∷ h.others;
  cut = h.cut ∙ append_assoc front (left ∷ []) h.others;
  composed = (last, h.composed, is, few);
}

pub pushed_of : (p : ScriptPlan) (limit : ℕ) (segments : List (List Path)) (segment : List Path) (left : List (List Path)) (last : List Path) (pushed : List (List Path)) → IsComposing p limit segments segment left last
    → pushed ≡ left ++ last ∷ [] → IsPushed p limit segments segment pushed
pushed_of p limit segments segment left last pushed h are = record {
  kept = left;
  others = h.others;
  last = last;
  cut = h.cut;
  composed = h.composed;
  are = are;
}

-- Where some are composed, the last of them and the segment have few pairs.
few_last : (p : ScriptPlan) (limit : ℕ) (first : List Path) (others : List (List Path)) (segment whole : List Path) (kept front : List (List Path)) (left : List Path) → kept ++ first ∷ others ≡ front ++ left ∷ []
    → AreComposedTo p limit (first ∷ others) segment whole → HaveFewPairs (test_truth p.tests) left segment limit
few_last p limit first [] segment whole kept front left e (right, same, is, few) =
    subst (λ (l : List Path). HaveFewPairs (test_truth p.tests) l segment limit) (same_from_push kept front first left e).1
    (subst (λ (r : List Path). HaveFewPairs (test_truth p.tests) first r limit) same few)
few_last p limit first (next ∷ others) segment whole kept front left e (right, composed, is, few) =
    few_last p limit next others segment right (kept ++ first ∷ []) front left (append_assoc kept (first ∷ []) (next ∷ others) ∙ e) composed

pub over_stays : (p : ScriptPlan) (limit n : ℕ) (front pushed : List (List Path)) (left segment : List Path) → IsPushed p limit (front ++ left ∷ []) segment pushed → ArePairs (test_truth p.tests) left segment n → limit < n
    → pushed ≡ (front ++ left ∷ []) ++ segment ∷ []
over_stays p limit n front pushed left segment h pairs more = of h.others h.cut h.composed
  where
    of : (others : List (List Path)) → front ++ left ∷ [] ≡ h.kept ++ others → AreComposedTo p limit others segment h.last → pushed ≡ (front ++ left ∷ []) ++ segment ∷ []
    of [] e composed = h.are ∙ ap₂ (λ (ss : List (List Path)) (s : List Path). ss ++ s ∷ []) (sym (e ∙ append-nil h.kept)) composed
    of (first ∷ others) e composed =
        let few = few_last p limit first others segment h.last h.kept front left (sym e) composed in
        absurd (never_both (test_truth p.tests) left segment limit few ((more_number (test_truth p.tests) left segment limit n pairs).1 more))

-- ---- neighbours
adjacent_last : {A : Type 0} (R : A → A → Type 0) (xs : List A) (x y : A) → AllAdjacentBelow R ((xs ++ x ∷ []) ++ y ∷ []) (length ((xs ++ x ∷ []) ++ y ∷ [])) → R x y
adjacent_last {A} R xs x y h =
    let all : List A = xs ++ x ∷ [] in
    let many : length xs + 1 < length (all ++ y ∷ []) = omega (arith, length_push all y, length_push xs x) in
    let here : length xs < length all = omega (arith, length_push xs x) in
    let first = get_or_append_left all (y ∷ []) x (length xs) here ∙ get_or_push xs x x (length xs) refl in
    let next = get_or_push all y x (length xs + 1) (length_push xs x) in
    subst (λ (v : A). R v y) first (subst (λ (v : A). R (get_or (all ++ y ∷ []) (length xs) x) v) next (h (length xs) x many))

pub within_composed : (p : ScriptPlan) (limit n : ℕ) (front pushed : List (List Path)) (left segment : List Path) → IsPushed p limit (front ++ left ∷ []) segment pushed → SegmentsAreTight p limit pushed
    → ArePairs (test_truth p.tests) left segment n → n ≤ limit → length pushed ≤ length (front ++ left ∷ [])
within_composed p limit n front pushed left segment h tight pairs few = of h.others h.cut h.composed
  where
    of : (others : List (List Path)) → front ++ left ∷ [] ≡ h.kept ++ others → AreComposedTo p limit others segment h.last → length pushed ≤ length (front ++ left ∷ [])
    of [] e composed =
        let are : pushed ≡ (front ++ left ∷ []) ++ segment ∷ [] = h.are ∙ ap₂ (λ (ss : List (List Path)) (s : List Path). ss ++ s ∷ []) (sym (e ∙ append-nil h.kept)) composed in
        let more = adjacent_last (AreApart p limit) front left segment (subst (λ (ss : List (List Path)). SegmentsAreTight p limit ss) are tight).apart in
        absurd (never_both (test_truth p.tests) left segment limit ((few_number (test_truth p.tests) left segment limit n pairs).1 few) more)
    of (first ∷ others) e composed =
        let all : length (front ++ left ∷ []) ≡ length h.kept + length (first ∷ others) = ap length e ∙ length-append h.kept (first ∷ others) in
        let many : length pushed ≡ length h.kept + 1 = ap length h.are ∙ length_push h.kept h.last in
        omega (arith, all, many)

pub apart_there : (p : ScriptPlan) (limit k n : ℕ) (chain : Chained) (left right : List Path) → IsTight p limit chain → slice_get chain.segments k ≡ Some left → slice_get chain.segments (k + 1) ≡ Some right
    → ArePairs (test_truth p.tests) left right n → limit < n
apart_there p limit k n chain left right tight a b pairs =
    let near : k + 1 < length chain.segments = slice_get_within chain.segments (k + 1) right b in
    let more : HaveMorePairs (test_truth p.tests) left right limit =
    subst (λ (l : List Path). HaveMorePairs (test_truth p.tests) l right limit) (get_or_from_slice_get chain.segments k left left a)
    (subst (λ (r : List Path). HaveMorePairs (test_truth p.tests) (get_or chain.segments k left) r limit) (get_or_from_slice_get chain.segments (k + 1) right left b) (tight.apart k left near)) in
    (more_number (test_truth p.tests) left right limit n pairs).0 more

pub few_there : (p : ScriptPlan) (limit k : ℕ) (chain : Chained) (segment : List Path) → IsTight p limit chain → slice_get chain.segments k ≡ Some segment → length segment ≤ max limit (path_bound p)
few_there p limit k chain segment tight at = all_at (HasFewPaths p limit) chain.segments k segment tight.few at
