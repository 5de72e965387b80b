-- Paths after which the cells are known, whatever the state before them was; lists may have had any
-- elements before. Such a path makes the steps of a group: each record makes one path of it.
use Rattle.std.specs.Prelude.{◌≡◌, ◌∷◌, [], ℕ, List, Some, None}
use Rattle.sym_base.specs.declared.values.record.Record.{Record}
use Rattle.sym_base.specs.declared.values.state.State.{State}
use Rattle.sym_base.specs.declared.values.state.Outcome.{Outcome}
use Rattle.sym_base.specs.declared.values.state.Outcome.TheVariants.{Going}
use Rattle.sym_base.specs.declared.values.value.Value.{Value}
use Rattle.sym_check.specs.Meaning.Conditions.{test_truth}
use Rattle.sym_check.specs.Meaning.FixedValues.{Environment}
use Rattle.sym_check.specs.Meaning.Updates.{environment, environment_after}
use Rattle.sym_check.specs.Plan.DoPlans.{DoPlan}
use Rattle.sym_check.specs.Plan.ScriptPlans.{ScriptPlan}
use Rattle.sym_enum.specs.Labels.{IsConst}
use Rattle.sym_int.specs.Lines.{form_cell}
use Rattle.sym_pred.specs.declared.form.HoldForm.{HoldForm}
use Rattle.sym_pred.specs.declared.form.HoldForm.TheVariants as hold
use Rattle.sym_path.specs.declared.form.Form.{Form}
use Rattle.sym_path.specs.declared.form.Form.TheVariants as form
use Rattle.sym_path.specs.declared.path.PathEnd.{PathEnd}
use Rattle.sym_path.specs.declared.path.PathEnd.TheVariants.{Next, Ended}
use Rattle.sym_path.specs.declared.path.Path.{Path}
use Rattle.sym_path.specs.Changing.{GoesOn, form_of}
use Rattle.sym_path.specs.Fitting.{PathFits}
use Rattle.sym_path.specs.Giving.{given}
use Rattle.sym_path.specs.Standing.{EndsAmong}
use Rattle.sym_explore.specs.Faulting.{HasNumber}
use Rattle.sym_explore.specs.Running.{HasValue}
use Rattle.sym_explore.specs.Stepping.{Becomes, step_by}

-- The parts are known.
abbrev pub AreConst : HoldForm → Type 0
AreConst (hold.Const parts) = Unit {0}
AreConst (hold.Copy c) = ⊥

-- The form is a constant, or that of a list, whatever it adds.
abbrev pub IsSure : Form → Type 0
IsSure (form.Enum f) = IsConst f
IsSure (form.Int f) = form_cell f ≡ None
IsSure (form.Hold f) = AreConst f
IsSure (form.Nums added) = Unit {0}
IsSure (form.Words added) = Unit {0}

-- The same of the form of each cell. After a fault there is none.
abbrev pub IsSureEnd : PathEnd → Type 0
IsSureEnd end = (c : ℕ) (f : Form) → form_of end c ≡ Some f → IsSure f

-- The path fits the script, goes on, and its cells are known.
pub record IsSurePath (p : ScriptPlan) (path : Path) : Type 0 where
  pub fits : PathFits p path
  pub goes_on : GoesOn path.end
  pub sure : IsSureEnd path.end

-- It is so of each state that the path makes.
abbrev pub HoldsAfter : ScriptPlan → Path → (State → Type 0) → Type 0
HoldsAfter p path P =
    (s later : State) → given (test_truth p.tests) path s ≡ Going later ∷ [] → P later

-- The path goes on, or its fault came at the record with this number.
abbrev pub EndsAt : ℕ → PathEnd → Type 0
EndsAt n (Next forms) = Unit {0}
EndsAt n (Ended fault) = fault.no ≡ n

-- A step was made by a path at the record with this number: the new path gives what the step makes
-- of what the old one gives.
pub record IsStepped (p : ScriptPlan) (step : Outcome → Outcome) (n : ℕ) (old new : Path) :
    Type 0 where
  pub becomes : Becomes p step old new
  pub fits : PathFits p new
  pub sure : IsSureEnd new.end
  pub ends : EndsAt n new.end

-- Where the path goes on after the statement, its local has a value, if it names one, and the locals
-- are those after it.
abbrev pub IsNamedOn : Record → Environment → DoPlan → List Value → Path → Type 0
IsNamedOn rec k d locals path =
    GoesOn path.end → HasValue k d × (environment rec locals ≡ environment_after k d)

-- The path made the step of the record; one that had ended is as it was.
pub record IsSteppedOn (p : ScriptPlan) (rec : Record) (old new : Path) : Type 0 where
  pub becomes : Becomes p (step_by p rec) old new
  pub fits : PathFits p new
  pub faults : (records : List Record) → HasNumber rec.no records → EndsAmong records old.end →
      EndsAmong records new.end
