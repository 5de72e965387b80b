-- Integer forms as elements of list forms, over an earlier path's forms and spans.
use Rattle.std.specs.Prelude.{◌≡◌, ◌≢◌, ℕ, ℤ, pos, ◌+ℤ◌, ◌*ℤ◌, ◌⊎◌, Option, Some, None, List, [], ◌∷◌, slice_get}
use Rattle.sym_base.specs.Limits.{IsNumber}
use Rattle.sym_base.specs.States.{HoldsInt, number_at}
use Rattle.sym_base.specs.declared.values.state.Cell.{Cell}
use Rattle.sym_base.specs.declared.values.state.Cell.TheVariants.{Enum, Int, Hold, Nums, Words}
use Rattle.sym_base.specs.declared.values.state.State.{State}
use Rattle.sym_int.specs.Lines.{form_on, form_cell, form_value, offset}
use Rattle.sym_int.specs.Points.{HasPoint}
use Rattle.sym_int.specs.Taken.{IsTaken}
use Rattle.sym_int.specs.declared.element.IntForms.{IntForms}
use Rattle.sym_int.specs.declared.form.IntForm.{IntForm}
use Rattle.sym_int.specs.declared.form.IntForm.TheVariants as form
use Rattle.sym_int.specs.declared.span.Span.{Span}

-- The form is the constant 0.
abbrev pub IsZero : IntForm → Type 0
IsZero (form.Const number) = number.value ≡ pos 0
IsZero (form.Line line) = ⊥

-- The numbers of the cells lie in their spans.
abbrev pub InSpans : List Span → State → Type 0
InSpans spans state =
    (cell : ℕ) (span : Span) → slice_get spans cell ≡ Some span →
    HasPoint span (number_at state cell)

-- A context covers the states whose cells lie in their spans. Where a cell isn't an integer
-- cell, its form is 0.
pub record Covers (context : IntForms) (state : State) : Type 0 where
  pub spans : InSpans context.spans state
  pub others : (cell : ℕ) (form : IntForm) → slice_get context.forms cell ≡ Some form →
      ((x : ℤ) × HoldsInt state cell x) ⊎ IsZero form

-- A cell in which an integer cell's number is replaced.
abbrev pub led_cell : ℤ → Cell → Cell
led_cell x (Enum label) = Enum label
led_cell x (Int old) = Int x
led_cell x (Hold parts) = Hold parts
led_cell x (Nums numbers) = Nums numbers
led_cell x (Words words) = Words words

-- The cells of which the integer cells hold their forms' numbers at a state.
abbrev pub led_cells : State → List IntForm → List Cell → List Cell
led_cells state (form ∷ forms) (cell ∷ cells) =
    led_cell (form_value form state) cell ∷ led_cells state forms cells
led_cells state (form ∷ forms) [] = []
led_cells state [] cells = cells

-- The state whose integer cells hold their forms' numbers, and whose other cells are as before.
abbrev pub led_to : IntForms → State → State
led_to context state = record state { cells = led_cells state context.forms state.cells }

-- A number that depends on a cell is a number of a script wherever the cell is in its span.
abbrev pub StaysOnSpan : (ℤ → ℤ) → Option Span → Type 0
StaysOnSpan number None = ⊥
StaysOnSpan number (Some span) = (x : ℤ) → HasPoint span x → IsNumber (number x)

-- The same where `spans` gives the span of each integer cell; a number may depend on no cell.
abbrev pub StaysOn : (ℤ → ℤ) → Option ℕ → (ℕ → Option Span) → Type 0
StaysOn number None spans = IsNumber (number (pos 0))
StaysOn number (Some cell) spans = StaysOnSpan number (spans cell)

-- A line over the form of its cell stays among the numbers of a script on the spans.
abbrev pub Composes : IntForm → Option IntForm → (ℕ → Option Span) → Type 0
Composes outer None spans = ⊥
Composes outer (Some inner) spans =
    StaysOn (λ x. form_on outer (form_on inner x)) (form_cell inner) spans

-- The condition under which a form may go over the forms of the integer cells.
abbrev pub CanGoOver : IntForm → (ℕ → Option IntForm) → (ℕ → Option Span) → Type 0
CanGoOver (form.Const number) forms spans = Unit {0}
CanGoOver (form.Line line) forms spans = Composes (form.Line line) (forms line.cell) spans

-- The same of the forms and the spans of a context.
abbrev pub CanGoThrough : IntForm → IntForms → Type 0
CanGoThrough f context = CanGoOver f (slice_get context.forms) (slice_get context.spans)

-- The form is this number at every state.
abbrev pub IsConstant : ℤ → IntForm → Type 0
IsConstant x (form.Const number) = number.value ≡ x
IsConstant x (form.Line line) = ⊥

-- A form that is a number, which depends on a cell, on the span of that cell.
abbrev pub IsOnSpan : (ℤ → ℤ) → ℕ → Option Span → IntForm → Type 0
IsOnSpan number cell None after = ⊥
IsOnSpan number cell (Some span) after = IsTaken number (Some cell) span after

-- The same where `spans` gives the span of each integer cell; a number may depend on no cell.
abbrev pub IsOnSpans : (ℤ → ℤ) → Option ℕ → (ℕ → Option Span) → IntForm → Type 0
IsOnSpans number None spans after = IsConstant (number (pos 0)) after
IsOnSpans number (Some cell) spans after = IsOnSpan number cell (spans cell) after

-- The line over the form of its cell, on the span of the cell that this one names.
abbrev pub IsComposed : IntForm → Option IntForm → (ℕ → Option Span) → IntForm → Type 0
IsComposed outer None spans after = ⊥
IsComposed outer (Some inner) spans after =
    IsOnSpans (λ x. form_on outer (form_on inner x)) (form_cell inner) spans after

-- What a form becomes over the forms of the integer cells: a constant stays, and a line becomes the
-- line over the form of its cell, on the span of the cell that it then names.
abbrev pub GoesOverTo :
    IntForm → (ℕ → Option IntForm) → (ℕ → Option Span) → IntForm → Type 0
GoesOverTo (form.Const number) forms spans after = after ≡ form.Const number
GoesOverTo (form.Line line) forms spans after =
    IsComposed (form.Line line) (forms line.cell) spans after

-- The same of the forms and the spans of a context.
abbrev pub GoesThroughTo : IntForm → IntForms → IntForm → Type 0
GoesThroughTo f context after =
    GoesOverTo f (slice_get context.forms) (slice_get context.spans) after

-- The condition under which a cell's number may be put into a form.
abbrev pub CanFix : IntForm → ℕ → ℤ → Type 0
CanFix (form.Const number) cell x = Unit {0}
CanFix (form.Line line) cell x = line.cell ≡ cell → IsNumber (line.a *ℤ x +ℤ offset line)

-- What a form becomes where a cell holds x: its number there, if it is over the cell, and else
-- itself.
pub record IsFixedTo (own : IntForm) (cell : ℕ) (x : ℤ) (after : IntForm) : Type 0 where
  pub named : form_cell own ≡ Some cell → IsConstant (form_on own x) after
  pub other : form_cell own ≢ Some cell → after ≡ own
