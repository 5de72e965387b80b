-- Where numbers are stored in paths, and what becomes of those outside a cell's range.
use Rattle.std.specs.Prelude.{◌≡◌, ℕ, ℤ, Bool, true, List, [], ◌∷◌, ◌++◌, map, Option, Some, None, IsSome}
use Rattle.sym_base.specs.declared.values.state.FaultKind.TheVariants as cause
use Rattle.sym_base.specs.declared.values.state.State.{State}
use Rattle.sym_base.specs.declared.values.state.Outcome.{Outcome}
use Rattle.sym_check.specs.Plan.CellKinds.{IsIntCell, IsNumsCell}
use Rattle.sym_check.specs.Meaning.Conditions.{test_truth}
use Rattle.sym_check.specs.Plan.Ranges.{kept}
use Rattle.sym_check.specs.Plan.ScriptPlans.{ScriptPlan}
use Rattle.sym_check.specs.Meaning.Updates.{with_int, with_pushed}
use Rattle.sym_int.specs.Lines.{form_value, wide_value}
use Rattle.sym_int.specs.Points.{HasPoint}
use Rattle.sym_int.specs.declared.form.IntForm.{IntForm}
use Rattle.sym_int.specs.declared.form.IntForm.TheVariants as number
use Rattle.sym_int.specs.declared.span.Span.{Span}
use Rattle.sym_int.specs.declared.wide.Wide.{Wide}
use Rattle.sym_path.specs.Changing.{GoesOn, changed}
use Rattle.sym_path.specs.Fitting.{PathFits}
use Rattle.sym_path.specs.Giving.{given}
use Rattle.sym_path.specs.Narrowing.{GivesWhere}
use Rattle.sym_path.specs.declared.part.Part.TheVariants as part
use Rattle.sym_path.specs.declared.path.Path.{Path}
use Rattle.sym_explore.specs.Parting.{AllGoOn}
use Rattle.sym_explore.specs.Ranging.{IsPartedAt, IsRangeOf, form_stored, kept_stored, ranged}
use Rattle.sym_explore.specs.declared.places.Place.{Place}
use Rattle.sym_explore.specs.declared.places.Place.TheVariants as place
use Rattle.sym_explore.specs.declared.places.Target.{Target}

-- The number of the cell of a place: the cell itself, or the list cell whose end it is.
abbrev pub place_cell : Place → ℕ
place_cell (place.Cell c) = c
place_cell (place.End c) = c

-- The state in which the number stands at the place.
abbrev pub put_at : Place → ℤ → State → State
put_at (place.Cell c) = with_int c
put_at (place.End c) = with_pushed c

-- The place is an integer cell of the script, or the end of one of its lists of numbers.
abbrev pub PlaceFits : ScriptPlan → Place → Type 0
PlaceFits p (place.Cell c) = IsIntCell p.cells c
PlaceFits p (place.End c) = IsNumsCell p.cells c

-- The target has the range of its cell, and the fault of a number outside it.
pub record TargetFits (p : ScriptPlan) (target : Target) : Type 0 where
  pub place : PlaceFits p target.place
  pub range : IsRangeOf p (place_cell target.place) (ranged target.clamps target.ends)
  pub fault : target.fault.kind ≡ cause.Over (place_cell target.place)

-- What comes of a number over the state before a path at the target.
abbrev pub target_stored : Wide → Target → State → Outcome → Outcome
target_stored wide target s =
    kept_stored (kept (ranged target.clamps target.ends) (wide_value wide s))
    target.fault (put_at target.place)

-- The number is stored there: the paths after give that, the path by the number of the form.
abbrev pub TargetRanges :
    ScriptPlan → Target → Wide → Path → List Path → Path → List Path → Option IntForm → Type 0
TargetRanges p target wide old before path after number = (s : State) →
    IsPartedAt p target.clamps (target_stored wide target s)
    (form_stored number (put_at target.place) s) old before path after s

-- Where numbers are clamped there is always one to store, and paths that are added go on.
abbrev pub AllAreStored : Bool → Option IntForm → List Path → List Path → Type 0
AllAreStored clamps number before after =
    clamps ≡ true → IsSome number × (AllGoOn before → AllGoOn after)

-- The second path gives what the first one gives with the form's number at the place.
abbrev pub IsPut : ScriptPlan → Place → IntForm → Path → Path → Type 0
IsPut p at f old new = (s : State) → given (test_truth p.tests) new s
    ≡ map (changed (put_at at (form_value f s))) (given (test_truth p.tests) old s)

-- The form is this constant, or a constant of this range.
abbrev pub IsConstant : IntForm → ℤ → Type 0
IsConstant (number.Const n) x = n.value ≡ x
IsConstant (number.Line line) x = ⊥

-- The form is a constant in this span.
abbrev pub IsConstantIn : Span → IntForm → Type 0
IsConstantIn ends (number.Const n) = HasPoint ends n.value
IsConstantIn ends (number.Line line) = ⊥

-- The last path is the path's part on this span of the cell, with the form's number at the place.
pub record IsStoredPushed (p : ScriptPlan) (c : ℕ) (span : Span) (at : Place) (f : IntForm)
    (path : Path) (before after : List Path) : Type 0 where
  pub pushed : Path
  pub is : after ≡ before ++ pushed ∷ []
  pub fits : PathFits p pushed
  pub goes_on : GoesOn pushed.end
  pub narrowed : Path
  pub gives : GivesWhere path c (part.Span span) narrowed
  pub put : IsPut p at f narrowed pushed

-- The same of a part of the cell's span; where there is none, the paths stay as they are.
abbrev pub IsPartStored :
    ScriptPlan → ℕ → Option Span → Place → IntForm → Path → List Path → List Path → Type 0
IsPartStored p c (Some span) at f path before after =
    IsStoredPushed p c span at f path before after
IsPartStored p c None at f path before after = after ≡ before
