-- What a path becomes where the number of a term is stored in a cell that has a range.
use Rattle.std.specs.Prelude.{◌≡◌, ℕ, ℤ, Bool, false, List, [], ◌∷◌, ◌++◌, map, Option, Some, None, slice_get, Result}
use Rattle.sym_base.specs.declared.values.state.Fault.{Fault}
use Rattle.sym_base.specs.declared.values.state.FaultKind.{FaultKind}
use Rattle.sym_base.specs.declared.values.state.State.{State}
use Rattle.sym_base.specs.declared.values.state.Outcome.{Outcome}
use Rattle.sym_check.specs.declared.plan.range.Range.{Range}
use Rattle.sym_check.specs.Meaning.Conditions.{test_truth}
use Rattle.sym_check.specs.Plan.Ranges.{range_at}
use Rattle.sym_check.specs.Plan.ScriptPlans.{ScriptPlan}
use Rattle.sym_check.specs.Meaning.Updates.{stored}
use Rattle.sym_int.specs.Lines.{form_value, wide_cell, wide_on, wide_value}
use Rattle.sym_int.specs.Parts.{IsWithin}
use Rattle.sym_int.specs.Taken.{IsCellIn, IsTaken}
use Rattle.sym_int.specs.declared.form.IntForm.{IntForm}
use Rattle.sym_int.specs.declared.form.IntForm.TheVariants as number
use Rattle.sym_int.specs.declared.span.Span.{Span}
use Rattle.sym_int.specs.declared.wide.Wide.{Wide}
use Rattle.sym_path.specs.declared.part.Part.TheVariants as part
use Rattle.sym_path.specs.declared.path.Path.{Path}
use Rattle.sym_path.specs.Changing.{GoesOn, changed, ended_by, end_by, with_fault}
use Rattle.sym_path.specs.Fitting.{NumberFits, PathFits}
use Rattle.sym_path.specs.Giving.{given}
use Rattle.sym_path.specs.Narrowing.{GivesWhere}
use Rattle.sym_path.specs.Taking.{NumberIsTakenTo}
use Rattle.sym_explore.specs.Parting.{at_state, those_going}
use Rattle.sym_explore.specs.Terms.{ready_number}
use Rattle.sym_explore.specs.declared.terms.Ready.{Ready}

-- The range with the ends of a span.
abbrev pub ranged : Bool → Span → Range
ranged clamps ends = record { lo = ends.lo; hi = ends.hi; clamps = clamps }

-- This is the range of the cell with this number.
abbrev pub IsRangeOf : ScriptPlan → ℕ → Range → Type 0
IsRangeOf p c range = range_at p.cells c ≡ Some range

-- What the cell keeps of the number of a ready term is put into the state.
abbrev pub ready_stored :
    ScriptPlan → Ready → ℕ → (ℤ → State → State) → State → Result State FaultKind
ready_stored p r c put s = stored p c put (ready_number r s) s

-- The number of the form at a state is put into it; where there is no form, nothing changes.
abbrev pub form_stored : Option IntForm → (ℤ → State → State) → State → Outcome → Outcome
form_stored (Some f) put s = changed (put (form_value f s))
form_stored None put s = λ o. o

-- The path and the other paths before, and those after: at a state, what was added to what the
-- others give, together with what is kept of what the path gives, is what the step makes of what
-- the path gave. Where no number is clamped, what was added has ended.
pub record IsPartedAt (p : ScriptPlan) (clamps : Bool) (step stays : Outcome → Outcome) (old : Path)
    (before : List Path) (path : Path) (after : List Path) (s : State) : Type 0 where
  pub added : List Outcome
  pub others : at_state p after s ≡ at_state p before s ++ added
  pub over : clamps ≡ false → those_going added ≡ []
  pub gives : added ++ map stays (given (test_truth p.tests) path s)
      ≡ map step (given (test_truth p.tests) old s)

-- What comes of what is kept of a number: it is put into the state, or where nothing is kept, the
-- group ends.
abbrev pub kept_stored : Option ℤ → Fault → (ℤ → State → State) → Outcome → Outcome
kept_stored (Some x) fault put = changed (put x)
kept_stored None fault put = ended_by fault

-- The path goes on. The number lies in the range wherever its constraint admits a state, and the
-- form of the number is taken on the constraint.
pub record NumberFitsOn (lo hi : ℤ) (path : Path) (f : IntForm) : Type 0 where
  pub goes_on : GoesOn path.end
  pub fits : NumberFits lo hi path.when f
  pub taken : NumberIsTakenTo path.when f f

-- The same of the range of a cell.
pub record NumberFitsCell (p : ScriptPlan) (c : ℕ) (path : Path) (f : IntForm) : Type 0 where
  pub range : Range
  pub is : IsRangeOf p c range
  pub on : NumberFitsOn range.lo range.hi path f

-- The last path is the path's part on this span of the cell, ended by the fault.
pub record IsFailedPushed (p : ScriptPlan) (c : ℕ) (span : Span) (fault : Fault) (path : Path)
    (before after : List Path) : Type 0 where
  pub pushed : Path
  pub is : after ≡ before ++ pushed ∷ []
  pub fits : PathFits p pushed
  pub gives : GivesWhere (with_fault path fault) c (part.Span span) pushed
  pub end : pushed.end ≡ end_by fault path.end

-- The same of a part of the cell's span; where there is none, the paths stay as they are.
abbrev pub IsPartPushed :
    ScriptPlan → ℕ → Option Span → Fault → Path → List Path → List Path → Type 0
IsPartPushed p c (Some span) fault path before after =
    IsFailedPushed p c span fault path before after
IsPartPushed p c None fault path before after = after ≡ before

-- What is kept of a known number is the constant of the form, and the path stays as it is; where
-- nothing is kept, the path ends.
abbrev pub KnownRanges : Option ℤ → Fault → Path → Path → Option IntForm → Type 0
KnownRanges found fault old path (Some (number.Const n)) = (found ≡ Some n.value) × (path ≡ old)
KnownRanges found fault old path (Some (number.Line line)) = ⊥
KnownRanges found fault old path None = (found ≡ None) × (path ≡ with_fault old fault)

-- The cell of a number has a span on the path, at each point of which the number lies in the range;
-- this is its form on the span.
pub record IsWholeOn (wide : Wide) (c : ℕ) (range : Span) (path : Path) (f : IntForm) : Type 0 where
  pub span : Span
  pub is : slice_get path.when c ≡ Some (part.Span span)
  pub within : IsWithin wide range span
  pub form : IsTaken (wide_on wide) (wide_cell wide) span f
  pub value : (s : State) → IsCellIn (wide_cell wide) span s → form_value f s ≡ wide_value wide s
