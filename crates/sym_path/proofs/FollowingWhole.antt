-- One path and then another.
use Rattle.std.proofs.Common.{◌≡◌, ℕ, ℤ, List, Some, ◌∙◌, refl, sym, ap, subst}
use Rattle.std.specs.Prelude.{slice_get}
use Rattle.std.specs.List.{All, AllZip}
use Rattle.sym_base.specs.Tests.{Truth}
use Rattle.sym_base.specs.declared.values.state.Fault.{Fault}
use Rattle.sym_base.specs.declared.values.state.State.{State}
use Rattle.sym_base.specs.declared.values.state.Outcome.TheVariants.{Going}
use Rattle.sym_check.specs.declared.plan.script.CellPlan.{CellPlan}
use Rattle.sym_check.specs.Meaning.Conditions.{test_truth}
use Rattle.sym_check.specs.Plan.ScriptPlans.{ScriptPlan}
use Rattle.sym_check.specs.Plan.WellFormed.{IsWellFormed}
use Rattle.sym_int.specs.Elements.{IsConstant}
use Rattle.sym_int.specs.Points.{HasPoint}
use Rattle.sym_int.specs.declared.element.IntForms.{IntForms}
use Rattle.sym_int.specs.declared.form.IntForm.{IntForm}
use Rattle.sym_int.specs.declared.form.IntForm.TheVariants as number
use Rattle.sym_int.specs.declared.span.Span.{Span}
use Rattle.sym_path.specs.declared.part.Part.{Part}
use Rattle.sym_path.specs.declared.part.Part.TheVariants as part
use Rattle.sym_path.specs.declared.form.Form.{Form}
use Rattle.sym_path.specs.declared.form.Form.TheVariants as form
use Rattle.sym_path.specs.declared.path.Path.{Path}
use Rattle.sym_path.specs.declared.path.PathEnd.{PathEnd}
use Rattle.sym_path.specs.declared.path.PathEnd.TheVariants.{Next, Ended}
use Rattle.sym_path.specs.Admitting.{Admits}
use Rattle.sym_path.specs.Fitting.{PartFits, NumberFits, FormFits, FormsFit, EndFits, PathFits}
use Rattle.sym_path.specs.Fitting as fitting
use Rattle.sym_path.specs.Following.{IsEndAfter, IsFollowed}
use Rattle.sym_path.specs.FormsAfter.{IsContext, AllCanComeAfter, AreAfter, CanEndAfter, EndsAfter}
use Rattle.sym_path.specs.Left.{AreLeft}
use Rattle.sym_path.specs.Giving.{state_at}
use Rattle.sym_path.specs.Possible.{Possible, IsPossiblePair}
use Rattle.sym_path.specs.Taking.{NumberIsTakenTo, IsTakenTo, AreTakenTo}
use Rattle.sym_path.proofs.FollowedStates.{left_is_admitted, left_gives, both_are_left}
use Rattle.sym_path.proofs.FollowingFits.{left_parts, taken_forms_fit, taken_meets}
use Rattle.sym_path.proofs.FollowingForms.{all_can_come, forms_go, states_same}
use Rattle.sym_path.proofs.JoiningGives.{end_same}
use Rattle.sym_path.proofs.Lists.{zip_get_right}

module _ (p : ScriptPlan) (when : List Part) (forms : List Form) (needs lefts : List Part) (well : IsWellFormed p)
    (parts : AllZip (PartFits p) p.cells when) (own : FormsFit p when forms) (others : AllZip (PartFits p) p.cells needs)
    (left : AreLeft forms needs when lefts) (possible : Possible (test_truth p.tests) when forms needs) where
  -- A fault after a path that goes on.
  pub fault_after : (fault : Fault) → EndFits p needs (Ended fault) → IsEndAfter p lefts forms (Ended fault) (Ended fault)
  fault_after fault h = record {
    fits = h;
    fault = λ g. (λ e. e, λ e. e);
    gives = λ s a. refl;
  }

  module _ (mids : List Form) (taken : AreTakenTo lefts forms mids) where
    mids_fit : FormsFit p lefts mids
    mids_fit = taken_forms_fit p when forms needs lefts parts own.each others left mids taken

    -- The forms' numbers are in the spans that are needed of them.
    meets : (c : ℕ) (g : IntForm) (need : Span) → slice_get mids c ≡ Some (form.Int g) → slice_get needs c ≡ Some (part.Span need) → NumberFits need.lo need.hi lefts g
    meets c g need at needed =
        let (f, is, t) = zip_get_right (IsTakenTo lefts) forms mids c (form.Int g) taken at in
        by f is t
      where
        constant : (f : IntForm) → slice_get forms c ≡ Some (form.Int f) → (n : ℤ) → IsConstant n f → HasPoint need n
        constant (number.Const k) is n h = subst (λ (z : ℤ). HasPoint need z) h (possible.constants (form.Int (number.Const k)) (part.Span need) (record { cell = c; has = is; needed = needed }))
        constant (number.Line line) is n h = absurd h

        number : (f : IntForm) (cp : CellPlan) → slice_get forms c ≡ Some (form.Int f) → FormFits p when cp (form.Int f) → NumberIsTakenTo lefts f g → NumberFits need.lo need.hi lefts g
        number f _ is (fitting.of_number lo hi first _ h) t = taken_meets p when forms needs lefts parts own.each others left c f g need lo hi is needed h (constant f is) t

        by : (f : Form) → slice_get forms c ≡ Some f → IsTakenTo lefts f (form.Int g) → NumberFits need.lo need.hi lefts g
        by (form.Enum f) is t = absurd t
        by (form.Int f) is t = let (cp, at_c, fits) = zip_get_right (FormFits p when) p.cells forms c (form.Int f) own.each is in number f cp is fits t
        by (form.Hold f) is t = absurd (cc)
        by (form.Nums f) is t = absurd t
        by (form.Words f) is t = absurd (cc)

    module _ (context : IntForms) (ctx : IsContext mids lefts context) (gs : List Form) (fits : FormsFit p needs gs) where
      come_after : AllCanComeAfter mids lefts context gs
      come_after = all_can_come (test_truth p.tests) p lefts mids needs context (left_parts p when forms needs lefts parts own.each others left) mids_fit others ctx meets well gs fits

      next_after : (rs : List Form) → AreAfter mids lefts context gs rs → IsEndAfter p lefts forms (Next gs) (Next rs)
      next_after rs h = record {
        fits = forms_go (test_truth p.tests) p lefts mids needs context (left_parts p when forms needs lefts parts own.each others left) mids_fit others ctx meets gs rs fits h;
        fault = λ fault. (λ e. absurd (cc), λ e. absurd (cc));
        gives = λ s a.
            let same : Going (state_at mids s) ≡ Going (state_at forms s) = end_same (test_truth p.tests) lefts s a (Next forms) (Next mids) taken in
            let states : state_at mids s ≡ state_at forms s = cc in
            ap Going (states_same (test_truth p.tests) p lefts mids needs context (left_parts p when forms needs lefts parts own.each others left) mids_fit others ctx meets gs rs fits h s a ∙ ap (λ (t : State). state_at gs t) states);
      }

    pub can_end : (e : PathEnd) → EndFits p needs e → CanEndAfter mids lefts e
    can_end (Next gs) fits = λ context ctx. come_after context ctx gs fits
    can_end (Ended fault) fits = tt

    pub end_is : (e end : PathEnd) → EndFits p needs e → EndsAfter mids lefts e end → IsEndAfter p lefts forms e end
    end_is (Next gs) end fits h = subst (λ (k : PathEnd). IsEndAfter p lefts forms (Next gs) k) (sym h.is) (next_after h.context h.known gs fits h.after h.become)
    end_is (Ended fault) end fits h = subst (λ (k : PathEnd). IsEndAfter p lefts forms (Ended fault) k) (sym h) (fault_after fault fits)

  -- The path of both.
  pub path_is : (q : Path) (end : PathEnd) → q.when ≡ needs → IsEndAfter p lefts forms q.end end → IsFollowed p (record { when = when; end = Next forms }) q (record { when = lefts; end = end })
  path_is q end e h = record {
    admits = λ s. (
      λ a. (left_is_admitted truth p when forms needs lefts s parts own.each others left.lengths left.each possible.constants a, subst (λ (v : List Part). Admits truth v (state_at forms s)) (sym e) (left_gives truth p when forms needs lefts s parts own.each others left.lengths left.each possible.constants a)),
      λ b. both_are_left truth p when forms needs lefts s parts own.each others left.lengths left.each possible.constants b.0 (subst (λ (v : List Part). Admits truth v (state_at forms s)) e b.1),
    );
    gives = λ s a. h.gives s a;
    fault = h.fault;
    fits = record { parts = left_parts p when forms needs lefts parts own.each others left; end = h.fits };
  }
    where
      truth : Truth
      truth = test_truth p.tests

-- What can come after a path that goes on, and what it needs.
pub possible_next : (truth : Truth) (p q : Path) (forms : List Form) → p.end ≡ Next forms → IsPossiblePair truth p q → Possible truth p.when forms q.when
possible_next truth p q forms e h = subst (λ (end : PathEnd). IsPossiblePair truth (record { when = p.when; end = end }) q) e h

pub not_after_fault : (truth : Truth) (p q : Path) (fault : Fault) → p.end ≡ Ended fault → IsPossiblePair truth p q → ⊥
not_after_fault truth p q fault e h = subst (λ (end : PathEnd). IsPossiblePair truth (record { when = p.when; end = end }) q) e h

pub forms_fit_next : (s : ScriptPlan) (p : Path) (forms : List Form) → p.end ≡ Next forms → PathFits s p → FormsFit s p.when forms
forms_fit_next s p forms e h = subst (λ (end : PathEnd). EndFits s p.when end) e h.end

pub followed_path : (s : ScriptPlan) (p q path : Path) (forms : List Form) → p.end ≡ Next forms → IsFollowed s (record { when = p.when; end = Next forms }) q path → IsFollowed s p q path
followed_path s p q path forms e h = subst (λ (end : PathEnd). IsFollowed s (record { when = p.when; end = end }) q path) (sym e) h
