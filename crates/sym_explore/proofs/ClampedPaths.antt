-- A path on which a number over a cell is stored at a target that clamps.
use Rattle.std.proofs.Common.{◌≡◌, ◌+◌, ◌≤◌, ℕ, ℤ, ◌<ℤ◌, true, false, List, [], ◌∷◌, ◌++◌, Option, Some, None, map, length, refl, sym, ap, ◌∙◌, subst, append_assoc, arith}
use Rattle.std.proofs.lemmas.Int.{ints, by_lt_z}
use Rattle.std.proofs.lemmas.List.{append-nil, length-append}
use Rattle.std.proofs.lemmas.List.Elements.{All-push}
use Rattle.std.specs.List.{All}
use Rattle.std.specs.Prelude.{slice_get}
use Rattle.sym_base.specs.States.{number_at}
use Rattle.sym_base.specs.declared.values.state.State.{State}
use Rattle.sym_base.specs.declared.values.state.Outcome.{Outcome}
use Rattle.sym_check.specs.Meaning.Conditions.{test_truth}
use Rattle.sym_check.specs.Plan.ScriptPlans.{ScriptPlan}
use Rattle.sym_int.specs.Fits.{IsFitted, inside_span}
use Rattle.sym_int.specs.Lines.{form_value, wide_cell, wide_on, wide_value}
use Rattle.sym_int.specs.Parts.{Above, Below, Within}
use Rattle.sym_int.specs.Points.{HasPoint, IsPart}
use Rattle.sym_int.specs.declared.fits.Fitted.{Fitted}
use Rattle.sym_int.specs.declared.fits.Inside.{Inside}
use Rattle.sym_int.specs.declared.form.IntForm.{IntForm}
use Rattle.sym_int.specs.declared.form.IntForm.TheVariants as form
use Rattle.sym_int.specs.declared.span.Span.{Span}
use Rattle.sym_int.specs.declared.wide.Wide.{Wide}
use Rattle.sym_path.specs.Changing.{GoesOn, changed}
use Rattle.sym_path.specs.Fitting.{PathFits}
use Rattle.sym_path.specs.Giving.{given, outcomes}
use Rattle.sym_path.specs.Narrowing.{GivesWhere}
use Rattle.sym_path.specs.declared.part.Part.TheVariants as part
use Rattle.sym_path.specs.declared.path.Path.{Path}
use Rattle.sym_explore.proofs.KeptNumbers.{kept_above, kept_below}
use Rattle.sym_explore.proofs.PathRanges.{IsGivenWhere, inside_given, inside_is, inside_makes, inside_points, kept_makes, narrowed_given, nothing_added, nothing_given, outcomes_push, parts_give}
use Rattle.sym_explore.specs.Placing.{IsConstant, IsPartStored, TargetRanges, put_at, target_stored}
use Rattle.sym_explore.specs.Ranging.{form_stored}
use Rattle.sym_explore.specs.declared.places.Place.{Place}
use Rattle.sym_explore.specs.declared.places.Target.{Target}

-- ---- a part that is pushed

module _ (p : ScriptPlan) (c : ℕ) (at : Place) (f : IntForm) (old : Path) where
  pub stored_length : (o : Option Span) (before after : List Path) → IsPartStored p c o at f old before after → length after ≤ length before + 1
  stored_length None before after h = let e = ap length h in omega (arith, e)
  stored_length (Some span) before after h = let e = ap length h.is in let g = length-append before (h.pushed ∷ []) in omega (arith, e, g)

  -- What is so of the paths before, and of each path that goes on and fits the script.
  pub stored_all : (P : Path → Type 0) → ((q : Path) → PathFits p q → GoesOn q.end → P q) → (o : Option Span) (before after : List Path) → IsPartStored p c o at f old before after → All P before → All P after
  stored_all P one None before after h all = subst (All P) (sym h) all
  stored_all P one (Some span) before after h all = subst (All P) (sym h.is) (All-push P before h.pushed all (one h.pushed h.fits h.goes_on))

  -- What is given on the part, with the number at the place.
  stored_given : (span : Span) (s : State) (o : Option Span) (property : ℤ → Type 0) (before after : List Path) → IsPart property o → IsPartStored p c o at f old before after →
      (gives : List Outcome) × (outcomes (test_truth p.tests) after s ≡ outcomes (test_truth p.tests) before s ++ gives)
      × IsGivenWhere (test_truth p.tests) old c span s property (map (changed (put_at at (form_value f s))) (given (test_truth p.tests) old s)) gives
  stored_given span s None property before after is h = (
    [],
    ap (λ (ps : List Path). outcomes (test_truth p.tests) ps s) h ∙ sym (append-nil (outcomes (test_truth p.tests) before s)),
    nothing_given (test_truth p.tests) old c span s property _ is,
  )
  stored_given span s (Some part_span) property before after is h =
      let T = test_truth p.tests in (
        given T h.pushed s,
        ap (λ (ps : List Path). outcomes T ps s) h.is ∙ outcomes_push T before h.pushed s,
        narrowed_given T old h.narrowed c span part_span s property (changed (put_at at (form_value f s))) (given T h.pushed s) is h.gives (h.put s),
      )

-- The same of two parts.
pub two_stored : (p : ScriptPlan) (c : ℕ) (at : Place) (old : Path) (f g : IntForm) (low high : Option Span) (before between after : List Path) → IsPartStored p c low at f old before between → IsPartStored p c high at g old between after →
    (P : Path → Type 0) → ((q : Path) → PathFits p q → GoesOn q.end → P q) → All P before → All P after
two_stored p c at old f g low high before between after h k P one all = stored_all p c at g old P one high between after k (stored_all p c at f old P one low before between h all)

-- ---- what the ends give

module _ (number : Wide) (target : Target) (clamps : target.clamps ≡ true) (s : State) where
  below_makes : (f : IntForm) → IsConstant f target.ends.lo → wide_value number s <ℤ target.ends.lo → target_stored number target s ≡ changed (put_at target.place (form_value f s))
  below_makes (form.Const n) e less = kept_makes number target s n.value (kept_below target.clamps target.ends (wide_value number s) clamps less ∙ ap (λ (y : ℤ). Some y) (sym e))
  below_makes (form.Line line) e less = absurd e

  above_makes : (f : IntForm) → IsConstant f target.ends.hi → target.ends.hi <ℤ wide_value number s → target_stored number target s ≡ changed (put_at target.place (form_value f s))
  above_makes (form.Const n) e more = kept_makes number target s n.value (kept_above target.clamps target.ends (wide_value number s) clamps more ∙ ap (λ (y : ℤ). Some y) (sym e))
  above_makes (form.Line line) e more = absurd e

-- ---- a path that is parted

module _ (p : ScriptPlan) (c : ℕ) (old path : Path) (span : Span) (number : Wide) (target : Target) (fitted : Fitted)
    (clamps : target.clamps ≡ true) (is : slice_get old.when c ≡ Some (part.Span span)) (names : wide_cell number ≡ Some c) (fits : IsFitted span number target.ends fitted)
    (least : IntForm) (is_least : IsConstant least target.ends.lo) where
  never : {A : Type 0} → target.clamps ≡ false → A
  never e = absurd (cc)

  -- What the ends of the range, and a number within it, come to.
  abbrev made : State → Outcome → Outcome
  made s = target_stored number target s

  abbrev with_form_at : IntForm → State → Outcome → Outcome
  with_form_at f s = changed (put_at target.place (form_value f s))

  -- The path goes on within the range.
  pub parts_around : (greatest : IntForm) → IsConstant greatest target.ends.hi → (inside : Inside) (before between after : List Path) → fitted.inside ≡ Some inside →
      IsPartStored p c fitted.below target.place least old before between → IsPartStored p c fitted.above target.place greatest old between after →
      GivesWhere old c (part.Span inside.span) path → TargetRanges p target number old before path after (Some inside.form)
  parts_around greatest is_greatest inside before between after some low high gives s =
      let T = test_truth p.tests in
      let put : ℤ → State → State = put_at target.place in
      let points = inside_points c span target.ends number fitted inside names fits some in
      let form_is = inside_is c span target.ends number fitted inside names fits some in
      let under = stored_given p c target.place least old span s fitted.below (Below span number target.ends.lo) before between fits.below low in
      let over = stored_given p c target.place greatest old span s fitted.above (Above span number target.ends.hi) between after fits.above high in
      let mid = map (form_stored (Some inside.form) put s) (given T path s) in
      record {
        added = under.0 ++ over.0;
        others = over.1 ∙ ap (λ (os : List Outcome). os ++ over.0) under.1 ∙ append_assoc (outcomes T before s) under.0 over.0;
        over = λ e. never e;
        gives = append_assoc under.0 over.0 mid
            ∙ parts_give p c old span target.ends number is names (made s) (with_form_at least s) (with_form_at greatest s) (changed (put (wide_value number s))) s under.0 over.0 mid
            (below_makes number target clamps s least is_least) (above_makes number target clamps s greatest is_greatest) (inside_makes number target s)
            under.2 over.2 (inside_given p c old path span target.ends number inside names points form_is gives put s);
      }

  module _ (none : fitted.inside ≡ None) where
    none_within : IsPart (Within span number target.ends) None
    none_within = subst (λ (o : Option Inside). IsPart (Within span number target.ends) (inside_span o)) none fits.inside

    nothing_within : (s : State) → IsGivenWhere (test_truth p.tests) old c span s (Within span number target.ends) (map (made s) (given (test_truth p.tests) old s)) []
    nothing_within s = nothing_given (test_truth p.tests) old c span s (Within span number target.ends) (map (made s) (given (test_truth p.tests) old s)) none_within

    -- It goes on above the range.
    pub parts_below : (greatest : IntForm) → IsConstant greatest target.ends.hi → (above : Span) (before after : List Path) → fitted.above ≡ Some above →
        IsPartStored p c fitted.below target.place least old before after →
        GivesWhere old c (part.Span above) path → TargetRanges p target number old before path after (Some greatest)
    parts_below greatest is_greatest above before after some low gives s =
        let T = test_truth p.tests in
        let points : IsPart (Above span number target.ends.hi) (Some above) = subst (IsPart (Above span number target.ends.hi)) some fits.above in
        let under = stored_given p c target.place least old span s fitted.below (Below span number target.ends.lo) before after fits.below low in
        let high : List Outcome = map (with_form_at greatest s) (given T path s) in
        let over = narrowed_given T old path c span above s (Above span number target.ends.hi) (with_form_at greatest s) high points gives refl in
        record {
          added = under.0;
          others = under.1;
          over = λ e. never e;
          gives = ap (λ (os : List Outcome). under.0 ++ os) (sym (append-nil high))
              ∙ parts_give p c old span target.ends number is names (made s) (with_form_at least s) (with_form_at greatest s) (made s) s under.0 high []
              (below_makes number target clamps s least is_least) (above_makes number target clamps s greatest is_greatest) (λ h. refl)
              under.2 over (nothing_within s);
        }

    -- All of it is below the range.
    pub whole_below : (before : List Path) → fitted.above ≡ None → TargetRanges p target number old before old before (Some least)
    whole_below before no_above s =
        let T = test_truth p.tests in
        let low : List Outcome = map (with_form_at least s) (given T old s) in
        let under : IsGivenWhere T old c span s (Below span number target.ends.lo) low low = record {
          none = λ e. ap (map (with_form_at least s)) e;
          here = λ h point g. refl;
          away = λ h point n. absurd (n (point, below_is (number_at s c) point));
        } in
        let over = nothing_given T old c span s (Above span number target.ends.hi) (map (made s) (given T old s)) none_above in
        nothing_added p target.clamps (made s) (with_form_at least s) old before old s
        (sym (append-nil low)
        ∙ parts_give p c old span target.ends number is names (made s) (with_form_at least s) (made s) (made s) s low [] []
        (below_makes number target clamps s least is_least) (λ h. refl) (λ h. refl)
        under over (nothing_within s))
      where
        none_above : IsPart (Above span number target.ends.hi) None
        none_above = subst (IsPart (Above span number target.ends.hi)) no_above fits.above

        below_is : (y : ℤ) → HasPoint span y → wide_on number y <ℤ target.ends.lo
        below_is y point = by_lt_z (wide_on number y) target.ends.lo
            (λ less. less)
            (λ not_less. by_lt_z target.ends.hi (wide_on number y)
            (λ more. absurd (none_above y (point, more)))
            (λ not_more. absurd (none_within y (point, (omega (arith, ints), omega (arith, ints))))))
