-- Chains that stay tight where the last segment is taken away, or one more is pushed.
use Rattle.std.proofs.Common.{◌≡◌, ◌<◌, ◌+◌, ℕ, refl, sym, subst, arith, List, [], ◌∷◌, ◌++◌, Some, length, get_or, inl, inr}
use Rattle.std.proofs.lemmas.Bool.{cases_lt}
use Rattle.std.proofs.lemmas.List.{get_or_append_left, get_or_push, length_push}
use Rattle.std.proofs.lemmas.List.Elements.{All-cons, All-nil, All-pop, All-push}
use Rattle.std.specs.List.{All, AllAdjacentBelow}
use Rattle.sym_check.specs.Meaning.Conditions.{test_truth}
use Rattle.sym_check.specs.Plan.ScriptPlans.{ScriptPlan}
use Rattle.sym_path.specs.declared.path.Path.{Path}
use Rattle.sym_path.specs.Composing.{IsComposition}
use Rattle.sym_path.specs.Within.{HaveFewPairs}
use Rattle.sym_path.proofs.PairCounts.{pairs_same}
use Rattle.sym_run.specs.Chains.{HasFewPaths, AreApart, SegmentsAreTight}

-- What holds of all holds of those before the last, and of the last.
pub all_front : {A : Type 0} (P : A → Type 0) (xs : List A) (x : A) → All P (xs ++ x ∷ []) → All P xs
all_front P xs x h = (All-pop P (xs ++ x ∷ []) xs (Some x) refl h).0

pub all_last : {A : Type 0} (P : A → Type 0) (xs : List A) (x : A) → All P (xs ++ x ∷ []) → P x
all_last P xs x h = (All-pop P (xs ++ x ∷ []) xs (Some x) refl h).1

-- ---- neighbours
module _ {A : Type 0} (R : A → A → Type 0) where
  adjacent_front : (xs : List A) (x : A) → AllAdjacentBelow R (xs ++ x ∷ []) (length (xs ++ x ∷ [])) → AllAdjacentBelow R xs (length xs)
  adjacent_front xs x h k d lt =
      let longer : k + 1 < length (xs ++ x ∷ []) = omega (arith, length_push xs x) in
      let here : k < length xs = omega arith in
      subst (λ (v : A). R v (get_or xs (k + 1) d)) (get_or_append_left xs (x ∷ []) d k here)
      (subst (λ (v : A). R (get_or (xs ++ x ∷ []) k d) v) (get_or_append_left xs (x ∷ []) d (k + 1) lt) (h k d longer))

  adjacent_push : (xs : List A) (x y : A) → R x y → AllAdjacentBelow R (xs ++ x ∷ []) (length (xs ++ x ∷ []))
      → AllAdjacentBelow R ((xs ++ x ∷ []) ++ y ∷ []) (length ((xs ++ x ∷ []) ++ y ∷ []))
  adjacent_push xs x y r h k d lt =
      let all : List A = xs ++ x ∷ [] in
      let here : k < length all = omega (arith, length_push all y) in
      subst (λ (v : A). R v (get_or (all ++ y ∷ []) (k + 1) d)) (sym (get_or_append_left all (y ∷ []) d k here))
      (elim (cases_lt (k + 1) (length all)) [
        | inl below ↦ subst (λ (v : A). R (get_or all k d) v) (sym (get_or_append_left all (y ∷ []) d (k + 1) below)) (h k d below)
        | inr past ↦
            let last : length all ≡ k + 1 = omega (arith, length_push all y) in
            let before : length xs ≡ k = omega (arith, length_push xs x) in
            subst (λ (v : A). R v (get_or (all ++ y ∷ []) (k + 1) d)) (sym (get_or_push xs x d k before))
            (subst (λ (v : A). R x v) (sym (get_or_push all y d (k + 1) last)) r)
      ])

-- ---- chains
pub tight_none : (p : ScriptPlan) (limit : ℕ) → SegmentsAreTight p limit []
tight_none p limit = record { few = All-nil (HasFewPaths p limit); apart = λ k d lt. absurd (omega arith) }

pub tight_one : (p : ScriptPlan) (limit : ℕ) (segment : List Path) → HasFewPaths p limit segment → SegmentsAreTight p limit (segment ∷ [])
tight_one p limit segment few = record {
  few = All-cons (HasFewPaths p limit) segment [] few (All-nil (HasFewPaths p limit));
  apart = λ k d lt. absurd (omega arith);
}

pub tight_front : (p : ScriptPlan) (limit : ℕ) (segments : List (List Path)) (segment : List Path) → SegmentsAreTight p limit (segments ++ segment ∷ []) → SegmentsAreTight p limit segments
tight_front p limit segments segment h = record {
  few = all_front (HasFewPaths p limit) segments segment h.few;
  apart = adjacent_front (AreApart p limit) segments segment h.apart;
}

pub tight_push : (p : ScriptPlan) (limit : ℕ) (segments : List (List Path)) (left right : List Path) → SegmentsAreTight p limit (segments ++ left ∷ []) → HasFewPaths p limit right → AreApart p limit left right
    → SegmentsAreTight p limit ((segments ++ left ∷ []) ++ right ∷ [])
tight_push p limit segments left right h few more = record {
  few = All-push (HasFewPaths p limit) (segments ++ left ∷ []) right h.few few;
  apart = adjacent_push (AreApart p limit) segments left right more h.apart;
}

-- A composition within the limit has few paths.
pub few_composed : (p : ScriptPlan) (limit : ℕ) (left right both : List Path) → IsComposition p left right both → HaveFewPairs (test_truth p.tests) left right limit → HasFewPaths p limit both
few_composed p limit left right both composed within =
    let same = pairs_same (test_truth p.tests) left right composed.few.pairs within.pairs composed.few.are within.are in
    let few = composed.few.few in
    let most = within.few in
    omega arith
