-- A path on which the number of a term is stored at a target.
use Rattle.std.proofs.Common.{◌≡◌, ℤ, List, [], ◌∷◌, Option, Some, None, map, refl, sym, ap, ◌∙◌, subst}
use Rattle.std.specs.Option.{option_and_then, ok_or}
use Rattle.std.specs.Prelude.{IfOk, IfSome, Result, Ok, Err}
use Rattle.sym_base.specs.declared.values.state.FaultKind.{FaultKind}
use Rattle.sym_base.specs.declared.values.state.FaultKind.TheVariants as cause
use Rattle.sym_base.specs.declared.values.state.State.{State}
use Rattle.sym_base.specs.declared.values.state.Outcome.{Outcome}
use Rattle.sym_base.specs.declared.values.state.Outcome.TheVariants.{Going}
use Rattle.sym_base.specs.declared.values.state.Outcome.TheVariants as outcome
use Rattle.sym_check.specs.declared.plan.range.Range.{Range}
use Rattle.sym_check.specs.Meaning.Arithmetic.{and_then}
use Rattle.sym_check.specs.Meaning.Conditions.{test_truth}
use Rattle.sym_check.specs.Plan.Ranges.{kept}
use Rattle.sym_check.specs.Plan.ScriptPlans.{ScriptPlan}
use Rattle.sym_check.specs.Meaning.Updates.{at_record, stored}
use Rattle.sym_int.specs.Lines.{wide_value}
use Rattle.sym_int.specs.declared.form.IntForm.{IntForm}
use Rattle.sym_int.specs.declared.form.IntForm.TheVariants as number
use Rattle.sym_int.specs.declared.span.Span.{Span}
use Rattle.sym_int.specs.declared.wide.WideNumber.{WideNumber}
use Rattle.sym_int.specs.declared.wide.Wide.{Wide}
use Rattle.sym_int.specs.declared.wide.Wide.TheVariants as wide
use Rattle.sym_path.proofs.Changed.{faults_give}
use Rattle.sym_path.specs.Changing.{GoesOn, changed}
use Rattle.sym_path.specs.Giving.{given}
use Rattle.sym_path.specs.declared.path.Path.{Path}
use Rattle.sym_explore.proofs.KeptNumbers.{kept_some, kept_within}
use Rattle.sym_explore.proofs.PathNumbers.{map_going}
use Rattle.sym_explore.proofs.PathRanges.{kept_makes, map_same, none_makes, nothing_added}
use Rattle.sym_explore.specs.Placing.{AllAreStored, IsConstantIn, TargetFits, TargetRanges, place_cell, put_at, target_stored}
use Rattle.sym_explore.specs.Ranging.{KnownRanges, NumberFitsOn, form_stored, kept_stored, ranged}
use Rattle.sym_explore.specs.Storing.{ReadyStores, after_store}
use Rattle.sym_explore.specs.Terms.{IsReadyOver}
use Rattle.sym_explore.specs.declared.places.Target.{Target}
use Rattle.sym_explore.specs.declared.terms.Ready.{Ready}

pub if_ok_as : {A E : Type 0} (r : Result A E) (P Q : A → Type 0) → ((x : A) → P x → Q x) → IfOk r P → IfOk r Q
if_ok_as (Ok x) P Q f h = f x h
if_ok_as (Err e) P Q f h = tt

-- ---- a number that is known

-- A constant of a range, on a path that goes on.
pub constant_fits : (ends : Span) (path : Path) (f : IntForm) → IsConstantIn ends f → GoesOn path.end → NumberFitsOn ends.lo ends.hi path f
constant_fits ends path (number.Const n) h goes = record {
  goes_on = goes;
  fits = h;
  taken = record { one = λ c x named o. absurd (cc); more = λ none. refl };
}
constant_fits ends path (number.Line line) h goes = absurd h

module _ (target : Target) (x : WideNumber) (old new : Path) where
  abbrev found : Option ℤ
  found = kept (ranged target.clamps target.ends) x.value

  pub known_ranges : (p : ScriptPlan) (before : List Path) (o : Option IntForm) → KnownRanges found target.fault old new o → TargetRanges p target (wide.Const x) old before new before o
  known_ranges p before (Some (number.Const n)) h s =
      let T = test_truth p.tests in
      nothing_added p target.clamps (target_stored (wide.Const x) target s) (form_stored (Some (number.Const n)) (put_at target.place) s) old before new s
      (ap (λ (path : Path). map (changed (put_at target.place n.value)) (given T path s)) h.1
      ∙ ap (λ (g : Outcome → Outcome). map g (given T old s)) (sym (kept_makes (wide.Const x) target s n.value h.0)))
  known_ranges p before (Some (number.Line line)) h s = absurd h
  known_ranges p before None h s =
      let T = test_truth p.tests in
      nothing_added p target.clamps (target_stored (wide.Const x) target s) (form_stored None (put_at target.place) s) old before new s
      (map_same (given T new s)
      ∙ ap (λ (path : Path). given T path s) h.1
      ∙ faults_give T s old target.fault
      ∙ ap (λ (g : Outcome → Outcome). map g (given T old s)) (sym (none_makes (wide.Const x) target s h.0)))

  pub known_number : (o : Option IntForm) → KnownRanges found target.fault old new o → GoesOn old.end → IfSome o (NumberFitsOn target.ends.lo target.ends.hi new)
  known_number (Some (number.Const n)) h goes =
      constant_fits target.ends new (number.Const n) (kept_within target.clamps target.ends x.value n.value h.0) (subst (λ (path : Path). GoesOn path.end) (sym h.1) goes)
  known_number (Some (number.Line line)) h goes = absurd h
  known_number None h goes = tt

  pub known_stored : (o : Option IntForm) (before : List Path) → KnownRanges found target.fault old new o → AllAreStored target.clamps o before before
  known_stored (Some f) before h clamps = (refl, λ all. all)
  known_stored None before h clamps = absurd (kept_some target.clamps target.ends x.value clamps h.0)

-- ---- a term

pub ready_ranges : (p : ScriptPlan) (r : Ready) (target : Target) (wide : Wide) (old path : Path) (before after : List Path) (form : Option IntForm) → TargetFits p target → IsReadyOver p r old wide → TargetRanges p target wide old before path after form → ReadyStores p target r old before path after form
ready_ranges p r target wide old path before after form fits over ranges s =
    let T = test_truth p.tests in
    let at = ranges s in
    record {
      added = at.added;
      others = at.others;
      over = at.over;
      gives = at.gives ∙ map_going T old s (target_stored wide target s) (after_store p target.fault.no target.place r) over.goes_on step;
    }
  where
    put : ℤ → State → State
    put = put_at target.place

    storing : State → Option ℤ → Result State FaultKind
    storing later o = and_then (λ (y : ℤ). Ok (put y later)) (ok_or o (cause.Over (place_cell target.place)))

    decided : (later : State) (o : Option ℤ) → kept_stored o target.fault put (Going later) ≡ at_record target.fault.no (storing later o)
    decided later (Some y) = refl
    decided later None = ap (λ (k : FaultKind). outcome.Ended (record { kind = k; no = target.fault.no })) fits.fault

    step : (later : State) → given (test_truth p.tests) old s ≡ Going later ∷ [] → target_stored wide target s (Going later) ≡ after_store p target.fault.no target.place r (Going later)
    step later g =
        decided later (kept (ranged target.clamps target.ends) (wide_value wide s))
        ∙ ap (λ (o : Option Range). at_record target.fault.no (storing later (option_and_then (λ q. kept q (wide_value wide s)) o))) (sym fits.range)
        ∙ ap (λ (x : ℤ). at_record target.fault.no (stored p (place_cell target.place) put x later)) (sym (over.number s later g))
