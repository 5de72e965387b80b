-- Forms on a span.
use Rattle.std.specs.Prelude.{◌≡◌, ℕ, ℤ, ◌<ℤ◌, Option, Some, None}
use Rattle.sym_base.specs.Limits.{IsNumber}
use Rattle.sym_base.specs.States.{number_at}
use Rattle.sym_base.specs.declared.values.state.State.{State}
use Rattle.sym_int.specs.Lines.{form_on, form_cell}
use Rattle.sym_int.specs.Points.{HasPoint}
use Rattle.sym_int.specs.declared.form.IntForm.{IntForm}
use Rattle.sym_int.specs.declared.span.Span.{Span}

-- The form has, where the cell holds a point x of the span, this number, which is a number of a
-- script there. It is a constant on one point, and over the cell on more.
pub record IsTaken (number : ℤ → ℤ) (cell : Option ℕ) (span : Span) (form : IntForm) : Type 0 where
  pub same : (x : ℤ) → HasPoint span x → form_on form x ≡ number x
  pub in_range : (x : ℤ) → HasPoint span x → IsNumber (number x)
  pub one : span.lo ≡ span.hi → form_cell form ≡ None
  pub more : span.lo <ℤ span.hi → form_cell form ≡ cell

-- The cell holds a point of the span at the state; where there is none, at every state.
abbrev pub IsCellIn : Option ℕ → Span → State → Type 0
IsCellIn None span state = Unit {0}
IsCellIn (Some cell) span state = HasPoint span (number_at state cell)
