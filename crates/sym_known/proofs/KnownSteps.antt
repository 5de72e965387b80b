-- Known paths that step stand for one record more.
use Rattle.std.proofs.Common.{◌≡◌, ◌<◌, ◌+◌, ℕ, Bool, true, false, List, [], ◌∷◌, ◌++◌, Option, Some, None, Result, Ok, Err, map, length, refl, sym, ap, ap₂, ◌∙◌, subst, arith, length-append}
use Rattle.std.proofs.lemmas.List.{get_or_append_left}
use Rattle.std.proofs.lemmas.List.Elements.{All-cons, All-head, All-nil, All-tail}
use Rattle.std.proofs.lemmas.List.Quantifiers.{Any-push}
use Rattle.std.specs.List.{All, AllZip, Any}
use Rattle.std.specs.Prelude.{slice_get, if◌then◌else◌}
use Rattle.sym_base.specs.Tests.{Truth}
use Rattle.sym_base.specs.declared.values.record.Record.{Record}
use Rattle.sym_base.specs.declared.values.state.FaultKind.{FaultKind}
use Rattle.sym_base.specs.declared.values.state.State.{State}
use Rattle.sym_base.specs.declared.values.state.Outcome.{Outcome}
use Rattle.sym_base.specs.declared.values.state.Outcome.TheVariants.{Going}
use Rattle.sym_base.specs.declared.values.state.Outcome.TheVariants as outcome
use Rattle.sym_check.specs.Meaning.Conditions.{test_truth}
use Rattle.sym_check.specs.Meaning.Fitting.{FitsOutcome}
use Rattle.sym_check.specs.Meaning.Updates.{after, at_record, dos_step, environment, step}
use Rattle.sym_check.specs.Meaning.Validity.{IsRecord, IsValid, IsValidOutcome}
use Rattle.sym_check.specs.Plan.ScriptPlans.{ScriptPlan}
use Rattle.sym_check.specs.Plan.WellFormed.{IsWellFormed}
use Rattle.sym_check.proofs.PlanLaws.{after_more}
use Rattle.sym_check.proofs.ValidSteps.{step_valid}
use Rattle.sym_path.specs.declared.path.PathEnd.{PathEnd}
use Rattle.sym_path.specs.declared.path.PathEnd.TheVariants.{Next, Ended}
use Rattle.sym_path.specs.Admitting.{admits}
use Rattle.sym_path.proofs.Lists.{get_within, map_both, zip_get}
use Rattle.sym_known.specs.declared.placed.Placed.{Placed}
use Rattle.sym_known.specs.Holding.{AllFit, EndedAmong, KnownFits, KnownPath, KnownStandsFor, StaysEnded, given_cells, known_at, known_given, known_outcomes, stepped}
use Rattle.sym_known.specs.Placing.{AllPlaced, IsPlaceOf, known_in, outcome_in, outcome_or}
use Rattle.sym_known.proofs.LeftAlone.{step_fronted}

module _ (p : ScriptPlan) (well : IsWellFormed p) (rec : Record) where
  stepped_gives : (k : KnownPath) (s : State) → KnownFits p k → known_at (stepped p rec k) s ≡ step p (known_at k s) rec
  stepped_gives k s h = sym (step_fronted p (given_cells k.path.end s) k.outcome rec well h.valid)

  if_stepped : (b : Bool) (x y : Outcome) → x ≡ step p y rec → (if b then x ∷ [] else []) ≡ map (λ o. step p o rec) (if b then y ∷ [] else [])
  if_stepped true x y e = ap (λ (o : Outcome). o ∷ []) e
  if_stepped false x y e = refl

  all_step : (known : List KnownPath) (s : State) → AllFit p known → known_outcomes (test_truth p.tests) (map (stepped p rec) known) s ≡ map (λ o. step p o rec) (known_outcomes (test_truth p.tests) known s)
  all_step [] s h = refl
  all_step (k ∷ known) s h =
      ap₂ (λ (xs ys : List Outcome). xs ++ ys)
      (if_stepped (admits (test_truth p.tests) k.path.when s.cells) (known_at (stepped p rec k) s) (known_at k s) (stepped_gives k s (All-head (KnownFits p) k known h)))
      (all_step known s (All-tail (KnownFits p) k known h))
      ∙ sym (map_both (λ o. step p o rec) (known_given (test_truth p.tests) k s) (known_outcomes (test_truth p.tests) known s))

  any_longer : {A : Type 0} (P : A → Type 0) (xs ys : List A) → Any P xs → Any P (xs ++ ys)
  any_longer P xs ys (k, x, below, is, h) = (k, x, omega (arith, length-append xs ys), get_or_append_left xs ys x k below ∙ is, h)

  recorded_among : (records : List Record) (r : Result State FaultKind) → EndedAmong (records ++ rec ∷ []) (at_record rec.no r)
  recorded_among records (Ok s) = tt
  recorded_among records (Err kind) = Any-push (λ (r : Record). r.no ≡ rec.no) records rec refl

  step_among : (records : List Record) (o : Outcome) → EndedAmong records o → EndedAmong (records ++ rec ∷ []) (step p o rec)
  step_among records (Going s) h = recorded_among records (dos_step p (environment rec []) p.update s)
  step_among records (outcome.Ended fault) h = any_longer (λ (r : Record). r.no ≡ fault.no) records (rec ∷ []) h

  all_among : (records : List Record) (known : List KnownPath) → All (λ (k : KnownPath). EndedAmong records k.outcome) known → All (λ (k : KnownPath). EndedAmong (records ++ rec ∷ []) k.outcome) (map (stepped p rec) known)
  all_among records [] h = All-nil (λ (k : KnownPath). EndedAmong (records ++ rec ∷ []) k.outcome)
  all_among records (k ∷ known) h =
      let P : KnownPath → Type 0 = λ j. EndedAmong records j.outcome in
      All-cons (λ (j : KnownPath). EndedAmong (records ++ rec ∷ []) j.outcome) (stepped p rec k) (map (stepped p rec) known)
      (step_among records k.outcome (All-head P k known h)) (all_among records known (All-tail P k known h))

  pub stepped_stand : (records : List Record) (known : List KnownPath) → AllFit p known → KnownStandsFor p records known → KnownStandsFor p (records ++ rec ∷ []) (map (stepped p rec) known)
  stepped_stand records known fits h = record {
    faults = all_among records known h.faults;
    exact = λ s v.
        all_step known s fits ∙ ap (map (λ o. step p o rec)) (h.exact s v)
        ∙ ap (λ (o : Outcome). o ∷ []) (sym (after_more p records rec (Going s)));
  }

  step_stays : (end : PathEnd) (o : Outcome) → StaysEnded end o → StaysEnded end (step p o rec)
  step_stays (Next forms) o h = tt
  step_stays (Ended fault) o h = ap (λ (x : Outcome). step p x rec) h

  pub stepped_fit : IsRecord p rec → ((o : Outcome) → IsValidOutcome p (step p o rec) → FitsOutcome p o → FitsOutcome p (step p o rec)) → (known : List KnownPath) → AllFit p known → AllFit p (map (stepped p rec) known)
  stepped_fit is law [] h = All-nil (KnownFits p)
  stepped_fit is law (k ∷ known) h =
      let one : KnownFits p k = All-head (KnownFits p) k known h in
      let later : IsValidOutcome p (step p k.outcome rec) = step_valid p k.outcome rec well is one.valid in
      All-cons (KnownFits p) (stepped p rec k) (map (stepped p rec) known)
      (record { path = one.path; cells = one.cells; ended = step_stays k.path.end k.outcome one.ended; valid = later; fits = law k.outcome later one.fits })
      (stepped_fit is law known (All-tail (KnownFits p) k known h))

-- ---- where outcomes stand

abbrev pub IsStep : ScriptPlan → Record → Outcome → Outcome → Type 0
IsStep p rec old new = new ≡ step p old rec

module _ (p : ScriptPlan) (rec : Record) (os later : List Outcome) (steps : AllZip (IsStep p rec) os later) where
  placed_steps : (end : PathEnd) (place : ℕ) → IsPlaceOf (length os) end place → outcome_in later place end ≡ step p (outcome_in os place end) rec
  placed_steps (Next forms) place h =
      let (o, at) = get_within os place h in
      let (new, there, is) = zip_get (IsStep p rec) os later place o steps at in
      ap outcome_or there ∙ is ∙ ap (λ (x : Outcome). step p x rec) (sym (ap outcome_or at))
  placed_steps (Ended fault) place h = refl

  pub all_placed_step : (placed : List Placed) → AllPlaced (length os) placed → map (known_in later) placed ≡ map (stepped p rec) (map (known_in os) placed)
  all_placed_step [] h = refl
  all_placed_step (x ∷ placed) h =
      let P : Placed → Type 0 = λ y. IsPlaceOf (length os) y.path.end y.place in
      ap₂ (λ (k : KnownPath) (ks : List KnownPath). k ∷ ks)
      (ap (λ (o : Outcome). record { path = x.path; outcome = o }) (placed_steps x.path.end x.place (All-head P x placed h)))
      (all_placed_step placed (All-tail P x placed h))

-- What is held after the outcomes stepped, in the place of those before.
pub stepped_view : (p : ScriptPlan) (rec : Record) (os given new later : List Outcome) (placed : List Placed) (old : List KnownPath) → given ≡ os → AllZip (IsStep p rec) given new → later ≡ new → AllPlaced (length os) placed → map (known_in os) placed ≡ old →
    map (known_in later) placed ≡ map (stepped p rec) old
stepped_view p rec os given new later placed old these steps back h view =
    let zip : AllZip (IsStep p rec) os new = subst (λ (xs : List Outcome). AllZip (IsStep p rec) xs new) these steps in
    ap (λ (xs : List Outcome). map (known_in xs) placed) back ∙ all_placed_step p rec os new zip placed h ∙ ap (map (stepped p rec)) view
