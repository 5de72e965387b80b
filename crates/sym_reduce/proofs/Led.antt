-- What the chains of a saved run lead totals to.
use Rattle.std.proofs.Common.{◌≡◌, subst, ℕ, suc, ◌+◌, ◌<◌, arith, Bool, true, false, cond, List, [], ◌∷◌, ◌++◌, All, length, map, Option, Some, None}
use Rattle.std.specs.Map.{lookup}
use Rattle.std.proofs.lemmas.List.Elements.{All-nil, All-cons, All-head, All-tail, All-append}
use Rattle.sym_base.specs.declared.values.value.Key.{Key}
use Rattle.sym_base.specs.declared.values.state.Outcome.{Outcome}
use Rattle.sym_check.specs.Meaning.Conditions.{test_truth}
use Rattle.sym_check.specs.Meaning.Groups.{is_key}
use Rattle.sym_check.specs.Meaning.Validity.{IsKey}
use Rattle.sym_check.specs.Plan.ScriptPlans.{ScriptPlan}
use Rattle.sym_run.specs.Chained.{Chained}
use Rattle.sym_plain.specs.Pairs.{has_key, put, standing}
use Rattle.sym_run.specs.declared.saved.Saved.{Saved}
use Rattle.sym_run.specs.SavedRuns.{IsLawfulSaved}
use Rattle.sym_file.specs.Totals.{led_through, taken, taken_on}
use Rattle.sym_file.specs.declared.totals.Taken.{Taken}
use Rattle.sym_file.specs.declared.totals.Taken.TheVariants as taking
use Rattle.sym_file.specs.TakenTexts.{Pairs}
use Rattle.sym_reduce.specs.Reducing.{AreReduced, IsTakenFile}
use Rattle.sym_reduce.specs.Reducing as runs

abbrev Chains : Type 0
Chains = List (Key × Chained)

-- ---- a gap is at one of the groups
module _ (p : ScriptPlan) where
  gap_step : (i g n : ℕ) (led : Option Outcome) (next : Outcome → Taken) → ((o : Outcome) → next o ≡ taking.Gap g → g < suc i + n) → taken_on i next led ≡ taking.Gap g → g < i + suc n
  gap_step i g n None next later e = let same : i ≡ g = cc in omega (arith, same)
  gap_step i g n (Some o) next later e = let there = later o e in omega (arith, there)

  pub gap_within : (i : ℕ) (groups : Chains) (totals : Pairs) (g : ℕ) → taken p i groups totals ≡ taking.Gap g → g < i + length groups
  gap_within i [] totals g e = absurd (cc)
  gap_within i (group ∷ groups) totals g e =
      gap_step i g (length groups) (led_through (test_truth p.tests) group.1 (standing p (lookup (is_key group.0) totals)))
      (λ outcome. taken p (suc i) groups (put totals group.0 outcome)) (λ o is. gap_within (suc i) groups (put totals group.0 o) g is) e

  -- ---- the keys are of the script's kinds
  abbrev HasKind : Key × Outcome → Type 0
  HasKind pair = IsKey p pair.0

  kept : (key : Key) (now : Outcome) (b : Bool) (pair : Key × Outcome) → HasKind pair → HasKind (cond b (pair.0, now) pair)
  kept key now true pair h = h
  kept key now false pair h = h

  changed : (key : Key) (now : Outcome) (totals : Pairs) → All HasKind totals → All HasKind (map (λ (pair : Key × Outcome). cond (is_key key pair.0) (pair.0, now) pair) totals)
  changed key now [] h = All-nil HasKind
  changed key now (pair ∷ totals) h =
      All-cons HasKind _ _ (kept key now (is_key key pair.0) pair (All-head HasKind pair totals h)) (changed key now totals (All-tail HasKind pair totals h))

  put_kinds : (totals : Pairs) (key : Key) (now : Outcome) → IsKey p key → All HasKind totals → All HasKind (put totals key now)
  put_kinds totals key now is h = by (has_key totals key)
    where
      by : (b : Bool) → All HasKind (cond b (map (λ (pair : Key × Outcome). cond (is_key key pair.0) (pair.0, now) pair) totals) (totals ++ (key, now) ∷ []))
      by true = changed key now totals h
      by false = All-append HasKind totals ((key, now) ∷ []) h (All-cons HasKind (key, now) [] is (All-nil HasKind))

  abbrev KeyIs : Key × Chained → Type 0
  KeyIs group = IsKey p group.0

  kinds_step : (i : ℕ) (more : Pairs) (led : Option Outcome) (next : Outcome → Taken) → ((o : Outcome) → next o ≡ taking.Done more → All HasKind more) → taken_on i next led ≡ taking.Done more
      → All HasKind more
  kinds_step i more None next later e = absurd (cc)
  kinds_step i more (Some o) next later e = later o e

  taken_kinds : (i : ℕ) (groups : Chains) (totals more : Pairs) → All KeyIs groups → All HasKind totals → taken p i groups totals ≡ taking.Done more → All HasKind more
  taken_kinds i [] totals more are h e = let same : totals ≡ more = cc in subst (All HasKind) same h
  taken_kinds i (group ∷ groups) totals more are h e =
      kinds_step i more (led_through (test_truth p.tests) group.1 (standing p (lookup (is_key group.0) totals))) (λ outcome. taken p (suc i) groups (put totals group.0 outcome))
      (λ o is.
      taken_kinds (suc i) groups (put totals group.0 o) more (All-tail KeyIs group groups are)
      (put_kinds totals group.0 o (All-head KeyIs group groups are) h) is)
      e

  lawful_keys : (saved : Saved) → IsLawfulSaved p saved → All KeyIs saved.groups
  lawful_keys saved h = λ k d near. (h.each k d near).key

  pub reduced_kinds : (script : List ℕ) (max_bytes next : ℕ) (totals : Pairs) (files : List (List ℕ)) (end : ℕ) (all : Pairs)
      → All HasKind totals → AreReduced script p max_bytes next totals files end all → All HasKind all
  reduced_kinds script max_bytes _ _ _ _ _ h (runs.no_file next totals) = h
  reduced_kinds script max_bytes _ _ _ _ _ h (runs.one_more next totals bytes files saved more end all few is rest) =
      reduced_kinds script max_bytes saved.next more files end all
      (taken_kinds 0 saved.groups totals more (lawful_keys saved is.file.is.lawful) h is.led) rest
