-- A path split by the outcome of a test.
use Rattle.std.specs.Prelude.{◌≡◌, ◌++◌, ℕ, Bool, List, Option, Some, None, slice_get, Result, Ok}
use Rattle.std.specs.FinMap.{get}
use Rattle.sym_base.specs.States.{parts_at}
use Rattle.sym_base.specs.declared.values.state.State.{State}
use Rattle.sym_base.specs.declared.values.value.Value.{Value}
use Rattle.sym_check.specs.declared.plan.script.KindPlan.{KindPlan}
use Rattle.sym_check.specs.declared.evaluate.arithmetic.Arith.{Arith}
use Rattle.sym_check.specs.Plan.CellKinds.{IsHoldCell}
use Rattle.sym_check.specs.Meaning.Conditions.{test_truth}
use Rattle.sym_check.specs.Plan.ScriptPlans.{ScriptPlan, TestOf}
use Rattle.sym_check.specs.Meaning.Validity.{AreOfKinds}
use Rattle.sym_pred.specs.Facts.{Atom}
use Rattle.sym_pred.specs.declared.form.HoldForm.TheVariants as hold
use Rattle.sym_path.specs.declared.part.Part.{Part}
use Rattle.sym_path.specs.declared.part.Part.TheVariants as part
use Rattle.sym_path.specs.declared.form.Form.{Form}
use Rattle.sym_path.specs.declared.form.Form.TheVariants as form
use Rattle.sym_path.specs.declared.path.Path.{Path}
use Rattle.sym_path.specs.Giving.{given}
use Rattle.sym_explore.specs.Branches.{judged, with_truth}
use Rattle.sym_explore.specs.declared.branch.Branch.{Branch}
use Rattle.sym_explore.specs.declared.hold_tests.Tested.{Tested}
use Rattle.sym_explore.specs.declared.hold_tests.Tested.TheVariants as tested

-- The test takes the kinds of the hold cell's parts and then those of the arguments.
pub record TestSuits (p : ScriptPlan) (c test : ℕ) (args : List Value) : Type 0 where
  pub called : TestOf
  pub is_test : slice_get p.tests test ≡ Some called
  pub kinds : List KindPlan
  pub is_hold : IsHoldCell p.cells c kinds
  pub others : List KindPlan
  pub params : called.params ≡ kinds ++ others
  pub suit : AreOfKinds p.enums others args

-- The outcome that is known of an atom by the facts of a hold cell; none by any other part, and by
-- none.
abbrev pub outcome_in : Option Part → Atom → Option Bool
outcome_in None atom = None
outcome_in (Some (part.Set set)) atom = None
outcome_in (Some (part.Span span)) atom = None
outcome_in (Some (part.Facts known)) atom = get known atom
outcome_in (Some part.Free) atom = None

-- The outcome of an atom, if the path's constraint has one for the hold cell with this number; none
-- for any other cell.
abbrev pub known_outcome : Path → ℕ → Atom → Option Bool
known_outcome path c atom = outcome_in (slice_get path.when c) atom

-- What a test comes to where the hold cell has this form.
abbrev pub IsTested : ScriptPlan → ℕ → List Value → Option Form → Tested → Type 0
IsTested p test args (Some (form.Hold (hold.Const parts))) (tested.Known x) = x ≡ test_truth p.tests test args parts
IsTested p test args (Some (form.Hold (hold.Const parts))) (tested.Held c) = ⊥
IsTested p test args (Some (form.Hold (hold.Const parts))) tested.Ended = ⊥
IsTested p test args (Some (form.Hold (hold.Copy d))) (tested.Known x) = ⊥
IsTested p test args (Some (form.Hold (hold.Copy d))) (tested.Held c) = c ≡ d
IsTested p test args (Some (form.Hold (hold.Copy d))) tested.Ended = ⊥
IsTested p test args (Some (form.Enum f)) t = t ≡ tested.Ended
IsTested p test args (Some (form.Int f)) t = t ≡ tested.Ended
IsTested p test args (Some (form.Nums added)) t = t ≡ tested.Ended
IsTested p test args (Some (form.Words added)) t = t ≡ tested.Ended
IsTested p test args None t = t ≡ tested.Ended

-- What the test answers for the parts of the cell.
abbrev pub test_holds : ScriptPlan → ℕ → ℕ → List Value → State → Result Bool Arith
test_holds p c test args s = Ok (test_truth p.tests test args (parts_at s c))

-- The path and the branches before, and those after: the new branches and the path, with its truth,
-- give what the path gave, with the test's answer for the parts that the cell held before the path.
abbrev pub WasTested : ScriptPlan → ℕ → ℕ → List Value → Path → List Branch → Path → List Branch → Bool → Type 0
WasTested p c test args old before path after last = (s : State) →
    judged (test_truth p.tests) after s ++ with_truth (Some last) (given (test_truth p.tests) path s)
    ≡ judged (test_truth p.tests) before s
    ++ with_truth (Some (test_truth p.tests test args (parts_at s c))) (given (test_truth p.tests) old s)
