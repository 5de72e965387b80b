-- Paths of which the end is changed: one form of a path that goes on, or a fault in its place.
use Rattle.std.specs.Prelude.{◌≡◌, ℕ, List, [], Option, Some, None, slice_get, slice_set, if◌then◌else◌}
use Rattle.sym_base.specs.declared.values.state.Cell.{Cell}
use Rattle.sym_base.specs.declared.values.state.Cell.TheVariants as cell
use Rattle.sym_base.specs.declared.values.state.Fault.{Fault}
use Rattle.sym_base.specs.declared.values.state.State.{State}
use Rattle.sym_base.specs.declared.values.state.Outcome.{Outcome}
use Rattle.sym_base.specs.declared.values.state.Outcome.TheVariants.{Going}
use Rattle.sym_base.specs.declared.values.state.Outcome.TheVariants as outcome
use Rattle.sym_base.specs.States.{parts_at, with_cell}
use Rattle.sym_base.specs.Tests.{Truth}
use Rattle.sym_check.specs.declared.plan.script.CellPlan.{CellPlan}
use Rattle.sym_check.specs.declared.plan.script.KindPlan.{KindPlan}
use Rattle.sym_check.specs.Plan.CellKinds.{IsHoldCell}
use Rattle.sym_check.specs.Plan.ScriptPlans.{ScriptPlan}
use Rattle.sym_pred.specs.Facts.{Atom}
use Rattle.sym_pred.specs.declared.literal.Literal.{Literal}
use Rattle.std.specs.FinMap.{get}
use Rattle.sym_path.specs.declared.part.Part.{Part}
use Rattle.sym_path.specs.declared.part.Part.TheVariants as part
use Rattle.sym_path.specs.declared.form.Form.{Form}
use Rattle.sym_path.specs.declared.path.PathEnd.{PathEnd}
use Rattle.sym_path.specs.declared.path.PathEnd.TheVariants.{Next, Ended}
use Rattle.sym_path.specs.declared.path.Path.{Path}
use Rattle.sym_path.specs.Admitting.{gives_outcome}
use Rattle.sym_path.specs.Fitting.{FormFits, Suits}
use Rattle.sym_path.specs.Giving.{cell_at, given}
use Rattle.sym_path.specs.Taking.{IsTakenOn}

-- The path goes on.
abbrev pub GoesOn : PathEnd → Type 0
GoesOn (Next forms) = Unit {0}
GoesOn (Ended fault) = ⊥

-- The form of a cell; none after a fault.
abbrev pub form_of : PathEnd → ℕ → Option Form
form_of (Next forms) c = slice_get forms c
form_of (Ended fault) c = None

-- The end in which a cell has another form; a fault stays.
abbrev pub end_with_form : ℕ → Form → PathEnd → PathEnd
end_with_form c f (Next forms) = Next (slice_set forms c f)
end_with_form c f (Ended fault) = Ended fault

-- The path in which a cell has another form; one that has ended stays as it is.
abbrev pub with_form : Path → ℕ → Form → Path
with_form path c f = record path { end = end_with_form c f path.end }

-- The end by a fault of a path that goes on; one that has ended stays so.
abbrev pub end_by : Fault → PathEnd → PathEnd
end_by fault (Next forms) = Ended fault
end_by fault (Ended old) = Ended old

-- The path ended by this fault; one that has ended already stays as it is.
abbrev pub with_fault : Path → Fault → Path
with_fault path fault = record path { end = end_by fault path.end }

-- What a group comes to whose state changes; one that has ended stays so.
abbrev pub changed : (State → State) → Outcome → Outcome
changed f (Going s) = Going (f s)
changed f (outcome.Ended fault) = outcome.Ended fault

-- What it comes to by a fault.
abbrev pub ended_by : Fault → Outcome → Outcome
ended_by fault (Going s) = outcome.Ended fault
ended_by fault (outcome.Ended old) = outcome.Ended old

-- A cell of a state; where there is none, any.
abbrev pub cell_or : Option Cell → Cell
cell_or (Some c) = c
cell_or None = cell.Enum 0

-- The later state in which a cell is as its form says at the first one.
abbrev pub formed : ℕ → Form → State → State → State
formed c f first later = with_cell later c (cell_at f first (cell_or (slice_get first.cells c)))

-- The form fits the cell of the script with this number, and is taken on the constraint.
pub record FormFitsCell (p : ScriptPlan) (when : List Part) (c : ℕ) (f : Form) : Type 0 where
  pub kind : CellPlan
  pub is : slice_get p.cells c ≡ Some kind
  pub fits : FormFits p when kind f
  pub taken : IsTakenOn when f

-- The literal suits the hold cell of the script with this number.
pub record SuitsCell (p : ScriptPlan) (c : ℕ) (literal : Literal) : Type 0 where
  pub kinds : List KindPlan
  pub is_hold : IsHoldCell p.cells c kinds
  pub suits : Suits p kinds literal

-- Facts are known of the cell, and no literal with this atom is among them.
abbrev pub IsOpenOf : Atom → Option Part → Type 0
IsOpenOf atom None = ⊥
IsOpenOf atom (Some (part.Set set)) = ⊥
IsOpenOf atom (Some (part.Span span)) = ⊥
IsOpenOf atom (Some (part.Facts known)) = get known atom ≡ None
IsOpenOf atom (Some part.Free) = ⊥

-- The second path gives what the first one gives, and only where the hold cell gives the literal's
-- outcome.
abbrev pub GivesWhereLiteral : Path → ℕ → Literal → Path → Type 0
GivesWhereLiteral old c literal new = (truth : Truth) (s : State) →
    given truth new s
    ≡ (if gives_outcome truth (parts_at s c) literal then given truth old s else [])
