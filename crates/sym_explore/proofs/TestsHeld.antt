-- The outcome of a test on a hold cell, at the states that a path admits.
use Rattle.std.proofs.Common.{◌≡◌, ℕ, Bool, true, false, not, List, [], ◌∷◌, ◌++◌, Option, Some, None, Result, Ok, Err, refl, sym, ap, ◌∙◌, subst}
use Rattle.std.specs.Prelude.{slice_get, if◌then◌else◌}
use Rattle.std.specs.FinMap.{get}
use Rattle.sym_base.specs.States.{parts_at, cell_parts}
use Rattle.sym_base.specs.declared.values.state.Cell.{Cell}
use Rattle.sym_base.specs.declared.values.state.Cell.TheVariants as cell
use Rattle.sym_base.specs.declared.values.state.State.{State}
use Rattle.sym_base.specs.declared.values.value.Value.{Value}
use Rattle.sym_base.specs.Tests.{Truth}
use Rattle.sym_check.specs.declared.evaluate.arithmetic.Arith.{Arith}
use Rattle.sym_check.specs.Meaning.Updates.{or_fault}
use Rattle.sym_check.specs.declared.plan.script.CellPlan.{CellPlan}
use Rattle.sym_check.specs.declared.plan.script.CellPlan.TheVariants as plan
use Rattle.sym_check.specs.declared.plan.script.KindPlan.{KindPlan}
use Rattle.sym_check.specs.Plan.CellKinds.{IsHoldCell}
use Rattle.sym_check.specs.Meaning.Conditions.{test_truth}
use Rattle.sym_check.specs.Plan.FixedPlans.{FixedPlan}
use Rattle.sym_check.specs.Meaning.FixedValues.{Environment, fixed_values}
use Rattle.sym_check.specs.Plan.CondPlans.{Test}
use Rattle.sym_check.specs.Plan.ScriptPlans.{ScriptPlan}
use Rattle.sym_check.proofs.ValidSteps.{all_fixed_are}
use Rattle.sym_pred.specs.Facts.{FactMap}
use Rattle.sym_pred.specs.HoldForms.{parts_value}
use Rattle.sym_pred.specs.Meaning as facts
use Rattle.sym_pred.specs.declared.form.HoldForm.{HoldForm}
use Rattle.sym_pred.specs.declared.form.HoldForm.TheVariants as hold
use Rattle.sym_pred.specs.declared.literal.Literal.{Literal}
use Rattle.sym_path.specs.declared.part.Part.{Part}
use Rattle.sym_path.specs.declared.part.Part.TheVariants as part
use Rattle.sym_path.specs.declared.form.Form.{Form}
use Rattle.sym_path.specs.declared.form.Form.TheVariants as form
use Rattle.sym_path.specs.declared.path.PathEnd.{PathEnd}
use Rattle.sym_path.specs.declared.path.PathEnd.TheVariants.{Next, Ended}
use Rattle.sym_path.specs.declared.path.Path.{Path}
use Rattle.sym_path.specs.Admitting.{PartAdmits, admits, gives_outcome}
use Rattle.sym_path.specs.Changing.{GoesOn, form_of, IsOpenOf, GivesWhereLiteral}
use Rattle.sym_path.specs.Fitting.{PartFits, FormFits, EndFits, PathFits}
use Rattle.sym_path.specs.Fitting as fitting
use Rattle.sym_path.specs.Giving.{state_at}
use Rattle.sym_path.proofs.Decided.{admits_decided}
use Rattle.sym_path.proofs.FollowedStates.{cells_at_get}
use Rattle.sym_path.proofs.Lists.{zip_get}
use Rattle.sym_explore.specs.declared.branch.Branch.{Branch}
use Rattle.sym_explore.specs.declared.hold_tests.Tested.TheVariants as tested
use Rattle.sym_explore.specs.Branches.{judged, answered, Splits}
use Rattle.sym_explore.specs.Calling.{IsTested, TestSuits, WasTested, outcome_in, known_outcome, test_holds}
use Rattle.sym_explore.specs.Knowing.{CondIsKnown}
use Rattle.sym_explore.proofs.JudgedBranches.{Judged, branch_of, known_truth, split_truth, going_answers}

-- ---- what is known of a hold cell, and its form

pub hold_part : (p : ScriptPlan) (path : Path) (c : ℕ) (kinds : List KindPlan) → IsHoldCell p.cells c kinds → PathFits p path → (known : FactMap) × (slice_get path.when c ≡ Some (part.Facts known))
hold_part p path c kinds h fits =
    let found = zip_get (PartFits p) p.cells path.when c (plan.Hold kinds h.first) fits.parts h.is in
    go (plan.Hold kinds h.first) found.0 refl found.1 found.2
  where
    go : (cp : CellPlan) (now : Part) → cp ≡ plan.Hold kinds h.first → slice_get path.when c ≡ Some now → PartFits p cp now → (known : FactMap) × (slice_get path.when c ≡ Some (part.Facts known))
    go _ _ e at (fitting.labels of first set g) = absurd (cc)
    go _ _ e at (fitting.numbers lo hi first span g) = absurd (cc)
    go _ _ e at (fitting.parts kinds' first known g) = (known, at)
    go _ _ e at (fitting.free_nums lo hi) = absurd (cc)
    go _ _ e at fitting.free_words = absurd (cc)

-- A hold cell of a path that goes on has the form of one.
record HoldFormOf (p : ScriptPlan) (path : Path) (c : ℕ) (kinds : List KindPlan) : Type 0 where
  forms : List Form
  hold : HoldForm
  end : path.end ≡ Next forms
  is : slice_get forms c ≡ Some (form.Hold hold)
  known : form_of path.end c ≡ Some (form.Hold hold)
  first : List Value
  fits : FormFits p path.when (plan.Hold kinds first) (form.Hold hold)

hold_form_of : (p : ScriptPlan) (path : Path) (c : ℕ) (kinds : List KindPlan) → IsHoldCell p.cells c kinds → PathFits p path → GoesOn path.end → HoldFormOf p path c kinds
hold_form_of p path c kinds h fits = go path.end refl fits.end
  where
    form_is : (forms : List Form) (cp : CellPlan) (f : Form) → path.end ≡ Next forms → cp ≡ plan.Hold kinds h.first → slice_get forms c ≡ Some f → FormFits p path.when cp f → HoldFormOf p path c kinds
    form_is forms _ _ e same at (fitting.of_label of first l g) = absurd (cc)
    form_is forms _ _ e same at (fitting.copied_label of first d g) = absurd (cc)
    form_is forms _ _ e same at (fitting.of_number lo hi first f g) = absurd (cc)
    form_is forms _ _ e same at (fitting.of_parts kinds' first parts g) =
        let k : plan.Hold kinds' first ≡ plan.Hold kinds h.first = same in
        record { forms = forms; hold = hold.Const parts; end = e; is = at; known = ap (λ (x : PathEnd). form_of x c) e ∙ at; first = h.first; fits = subst (λ (x : CellPlan). FormFits p path.when x (form.Hold (hold.Const parts))) k (fitting.of_parts kinds' first parts g) }
    form_is forms _ _ e same at (fitting.copied_parts kinds' first d g) =
        let k : plan.Hold kinds' first ≡ plan.Hold kinds h.first = same in
        record { forms = forms; hold = hold.Copy d; end = e; is = at; known = ap (λ (x : PathEnd). form_of x c) e ∙ at; first = h.first; fits = subst (λ (x : CellPlan). FormFits p path.when x (form.Hold (hold.Copy d))) k (fitting.copied_parts kinds' first d g) }
    form_is forms _ _ e same at (fitting.of_numbers lo hi added g) = absurd (cc)
    form_is forms _ _ e same at (fitting.of_words added) = absurd (cc)

    go : (end : PathEnd) → path.end ≡ end → EndFits p path.when end → GoesOn end → HoldFormOf p path c kinds
    go (Next forms) e ends on =
        let found = zip_get (FormFits p path.when) p.cells forms c (plan.Hold kinds h.first) ends.each h.is in
        form_is forms (plan.Hold kinds h.first) found.0 e refl found.1 found.2
    go (Ended fault) e ends on = absurd on

form_goes_on : (path : Path) (c : ℕ) (f : Form) → form_of path.end c ≡ Some f → GoesOn path.end
form_goes_on path c f = go path.end
  where
    go : (end : PathEnd) → form_of end c ≡ Some f → GoesOn end
    go (Next forms) e = tt
    go (Ended fault) e = absurd (cc)

copied_hold : (p : ScriptPlan) (path : Path) (c d : ℕ) (kinds : List KindPlan) → IsHoldCell p.cells c kinds → PathFits p path → form_of path.end c ≡ Some (form.Hold (hold.Copy d)) → IsHoldCell p.cells d kinds
copied_hold p path c d kinds h fits same =
    let found = hold_form_of p path c kinds h fits (form_goes_on path c (form.Hold (hold.Copy d)) same) in
    let known = found.known in
    let is : form.Hold found.hold ≡ form.Hold (hold.Copy d) = cc in
    go (plan.Hold kinds found.first) (form.Hold found.hold) refl is found.fits
  where
    go : {first : List Value} (cp : CellPlan) (f : Form) → cp ≡ plan.Hold kinds first → f ≡ form.Hold (hold.Copy d) → FormFits p path.when cp f → IsHoldCell p.cells d kinds
    go _ _ e g (fitting.of_label of first l k) = absurd (cc)
    go _ _ e g (fitting.copied_label of first a k) = absurd (cc)
    go _ _ e g (fitting.of_number lo hi first f k) = absurd (cc)
    go _ _ e g (fitting.of_parts kinds' first parts k) = absurd (cc)
    go _ _ e g (fitting.copied_parts kinds' first a k) =
        let cell : a ≡ d = cc in
        let both : kinds' ≡ kinds = cc in
        subst (λ (x : List KindPlan). IsHoldCell p.cells d x) both (subst (λ (x : ℕ). IsHoldCell p.cells x kinds') cell k)
    go _ _ e g (fitting.of_numbers lo hi added k) = absurd (cc)
    go _ _ e g (fitting.of_words added) = absurd (cc)

-- ---- the parts at a state that the path admits

record PartsHeld (tests : Truth) (known : FactMap) (s : State) (c : ℕ) : Type 0 where
  holds : slice_get s.cells c ≡ Some (cell.Hold (parts_at s c))
  tell : facts.Admits tests known (parts_at s c)

parts_held : (tests : Truth) (when : List Part) (s : State) (c : ℕ) (known : FactMap) → slice_get when c ≡ Some (part.Facts known) → admits tests when s.cells ≡ true → PartsHeld tests known s c
parts_held tests when s c known is admitted =
    let found = zip_get (PartAdmits tests) when s.cells c (part.Facts known) ((admits_decided tests when s).0 admitted) is in
    go found.0 found.1 found.2
  where
    go : (x : Cell) → slice_get s.cells c ≡ Some x → PartAdmits tests (part.Facts known) x → PartsHeld tests known s c
    go (cell.Enum l) e h = absurd h
    go (cell.Int x) e h = absurd h
    go (cell.Hold ps) e h =
        let at : parts_at s c ≡ ps = ap cell_parts e in
        record {
          holds = e ∙ ap (λ (x : List Value). Some (cell.Hold x)) (sym at);
          tell = subst (λ (x : List Value). facts.Admits tests known x) (sym at) h;
        }
    go (cell.Nums xs) e h = absurd h
    go (cell.Words ts) e h = absurd h

-- The parts after the path are those of the form.
parts_after : (p : ScriptPlan) (tests : Truth) (path : Path) (s : State) (c : ℕ) (kinds : List KindPlan) (f : HoldForm) → IsHoldCell p.cells c kinds → PathFits p path → form_of path.end c ≡ Some (form.Hold f) → admits tests path.when s.cells ≡ true → (forms : List Form) → path.end ≡ Next forms → parts_at (state_at forms s) c ≡ parts_value f s
parts_after p tests path s c kinds f h fits same admitted forms end =
    let found = hold_part p path c kinds h fits in
    let held = parts_held tests path.when s c found.0 found.1 admitted in
    let is : slice_get forms c ≡ Some (form.Hold f) = sym (ap (λ (x : PathEnd). form_of x c) end) ∙ same in
    ap cell_parts (cells_at_get forms s s.cells c (form.Hold f) (cell.Hold (parts_at s c)) is held.holds)

-- ---- a path split by the outcome of a test

-- No outcome of the test is known.
pub open_outcome : (p : ScriptPlan) (path : Path) (c test : ℕ) (args : List Value) → TestSuits p c test args → PathFits p path → known_outcome path c (test, args) ≡ None → IsOpenOf (test, args) (slice_get path.when c)
open_outcome p path c test args suits fits none =
    let found = hold_part p path c suits.kinds suits.is_hold fits in
    let get_none : get found.0 (test, args) ≡ None = sym (ap (λ (o : Option Part). outcome_in o (test, args)) found.1) ∙ none in
    subst (λ (o : Option Part). IsOpenOf (test, args) o) (sym found.1) get_none

-- An outcome that is known is that of each state.
pub known_tested : (p : ScriptPlan) (path : Path) (branches : List Branch) (c test : ℕ) (args : List Value) (x : Bool) → TestSuits p c test args → PathFits p path → known_outcome path c (test, args) ≡ Some x → WasTested p c test args path branches path branches x
known_tested p path branches c test args x suits fits is s =
    let tests = test_truth p.tests in
    let found = hold_part p path c suits.kinds suits.is_hold fits in
    let told : get found.0 (test, args) ≡ Some x = sym (ap (λ (o : Option Part). outcome_in o (test, args)) found.1) ∙ is in
    ap (λ (js : Judged). judged tests branches s ++ js)
    (known_truth tests path s x (tests test args (parts_at s c)) (λ admitted.
    let held = parts_held tests path.when s c found.0 found.1 admitted in
    sym (held.tell (test, args) x told)))

abbrev literal_with : ℕ → List Value → Bool → Literal
literal_with test args x = record { test = test; args = args; outcome = x }

pub both_tested : (p : ScriptPlan) (old copy path : Path) (branches : List Branch) (c test : ℕ) (args : List Value) (first last : Literal) → first ≡ literal_with test args true → last ≡ literal_with test args false → GivesWhereLiteral old c first copy → GivesWhereLiteral old c last path → WasTested p c test args old branches path (branches ++ branch_of copy true ∷ []) false
both_tested p old copy path branches c test args first last f l one other s =
    let tests = test_truth p.tests in
    let parts = parts_at s c in
    split_truth tests branches old copy path s (tests test args parts)
    (gives_outcome tests parts first) (gives_outcome tests parts last)
    (one tests s) (other tests s)
    (λ admitted. ap (gives_outcome tests parts) f ∙ same_true (tests test args parts))
    (λ admitted. ap (gives_outcome tests parts) l ∙ same_false (tests test args parts))
  where
    same_true : (x : Bool) → (if true then x else not x) ≡ x
    same_true x = refl

    same_false : (x : Bool) → (if false then x else not x) ≡ not x
    same_false x = refl

-- ---- a test called on a path

-- What a test came to, by the form of the cell.
const_form : (p : ScriptPlan) (test : ℕ) (args : List Value) (o : Option Form) (x : Bool) → IsTested p test args o (tested.Known x) → (parts : List Value) × (o ≡ Some (form.Hold (hold.Const parts))) × (x ≡ test_truth p.tests test args parts)
const_form p test args (Some (form.Hold (hold.Const parts))) x h = (parts, refl, h)
const_form p test args (Some (form.Hold (hold.Copy d))) x h = absurd h
const_form p test args (Some (form.Enum f)) x h = absurd (cc)
const_form p test args (Some (form.Int f)) x h = absurd (cc)
const_form p test args (Some (form.Nums added)) x h = absurd (cc)
const_form p test args (Some (form.Words added)) x h = absurd (cc)
const_form p test args None x h = absurd (cc)

copied_form : (p : ScriptPlan) (test : ℕ) (args : List Value) (o : Option Form) (d : ℕ) → IsTested p test args o (tested.Held d) → o ≡ Some (form.Hold (hold.Copy d))
copied_form p test args (Some (form.Hold (hold.Const parts))) d h = absurd h
copied_form p test args (Some (form.Hold (hold.Copy e))) d h = ap (λ (x : ℕ). Some (form.Hold (hold.Copy x))) (sym h)
copied_form p test args (Some (form.Enum f)) d h = absurd (cc)
copied_form p test args (Some (form.Int f)) d h = absurd (cc)
copied_form p test args (Some (form.Nums added)) d h = absurd (cc)
copied_form p test args (Some (form.Words added)) d h = absurd (cc)
copied_form p test args None d h = absurd (cc)

no_form : (p : ScriptPlan) (test : ℕ) (args : List Value) (f : HoldForm) → IsTested p test args (Some (form.Hold f)) tested.Ended → ⊥
no_form p test args (hold.Const parts) h = h
no_form p test args (hold.Copy d) h = h

-- The path has ended where the cell has no form.
pub ended_tested : (p : ScriptPlan) (path : Path) (c test : ℕ) (args : List Value) → TestSuits p c test args → PathFits p path → IsTested p test args (form_of path.end c) tested.Ended → ¬ (GoesOn path.end)
ended_tested p path c test args suits fits h on =
    let found = hold_form_of p path c suits.kinds suits.is_hold fits on in
    no_form p test args found.hold (subst (λ (o : Option Form). IsTested p test args o tested.Ended) found.known h)

-- The test suits the hold cell that a form copies.
pub copied_suits : (p : ScriptPlan) (path : Path) (c from test : ℕ) (args : List Value) → TestSuits p c test args → PathFits p path → IsTested p test args (form_of path.end c) (tested.Held from) → TestSuits p from test args
copied_suits p path c from test args suits fits h = record {
  called = suits.called;
  is_test = suits.is_test;
  kinds = suits.kinds;
  is_hold = copied_hold p path c from suits.kinds suits.is_hold fits (copied_form p test args (form_of path.end c) from h);
  others = suits.others;
  params = suits.params;
  suit = suits.suit;
}

-- The answer for known parts.
pub const_called : (p : ScriptPlan) (path : Path) (branches : List Branch) (c test : ℕ) (args : List Value) (x : Bool) → TestSuits p c test args → PathFits p path → IsTested p test args (form_of path.end c) (tested.Known x) → (n : ℕ) → Splits p (answered n (test_holds p c test args)) path branches path branches x
const_called p path branches c test args x suits fits h n s =
    let tests = test_truth p.tests in
    let found = const_form p test args (form_of path.end c) x h in
    ap (λ (js : Judged). judged tests branches s ++ js)
    (going_answers tests path s n (test_holds p c test args) x (form_goes_on path c (form.Hold (hold.Const found.0)) found.1)
    (λ admitted forms end.
    ap (λ (parts : List Value). Ok (tests test args parts)) (parts_after p tests path s c suits.kinds (hold.Const found.0) suits.is_hold fits found.1 admitted forms end)
    ∙ ap (λ (y : Bool). Ok y) (sym found.2)))

-- The answer for the parts that a cell held before the path.
pub copy_called : (p : ScriptPlan) (old path : Path) (before after : List Branch) (c from test : ℕ) (args : List Value) (last : Bool) → TestSuits p c test args → PathFits p old → IsTested p test args (form_of old.end c) (tested.Held from) → WasTested p from test args old before path after last → (n : ℕ) → Splits p (answered n (test_holds p c test args)) old before path after last
copy_called p old path before after c from test args last suits fits h split n s =
    let tests = test_truth p.tests in
    let is = copied_form p test args (form_of old.end c) from h in
    split s
    ∙ ap (λ (js : Judged). judged tests before s ++ js)
    (going_answers tests old s n (test_holds p c test args) (tests test args (parts_at s from)) (form_goes_on old c (form.Hold (hold.Copy from)) is)
    (λ admitted forms end.
    ap (λ (parts : List Value). Ok (tests test args parts)) (parts_after p tests old s c suits.kinds (hold.Copy from) suits.is_hold fits is admitted forms end)))

-- ---- the arguments of a call

-- The arguments of a well-formed call suit its test.
pub called_suits : (p : ScriptPlan) (k : Environment) (test c : ℕ) (es : List FixedPlan) (args : List Value) → CondIsKnown p k (Test test c es) → fixed_values k es ≡ Ok args → TestSuits p c test args
called_suits p k test c es args h made = record {
  called = h.well.called;
  is_test = h.well.is_test;
  kinds = h.well.parts;
  is_hold = h.well.is_hold;
  others = h.well.others;
  params = h.well.params;
  suit = all_fixed_are p.enums h.kinds k h.known h.well.others es args h.well.arguments made;
}

-- Arguments that were made are the values of their expressions.
pub values_made : {A : Type 0} (r : Result A Arith) (x : A) → or_fault r ≡ Ok x → r ≡ Ok x
values_made (Ok y) x e = let same : y ≡ x = cc in ap Ok same
values_made (Err y) x e = absurd (cc)
