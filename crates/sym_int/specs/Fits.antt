-- The parts of a span by whether a form is in a range.
use Rattle.std.specs.Prelude.{◌≡◌, Option, Some, None, IfSome}
use Rattle.sym_base.specs.declared.values.state.State.{State}
use Rattle.sym_int.specs.Lines.{form_value, wide_on, wide_cell, wide_value}
use Rattle.sym_int.specs.Parts.{Above, Below, Within}
use Rattle.sym_int.specs.Points.{IsPart}
use Rattle.sym_int.specs.Taken.{IsTaken, IsCellIn}
use Rattle.sym_int.specs.declared.fits.Fitted.{Fitted}
use Rattle.sym_int.specs.declared.fits.Inside.{Inside}
use Rattle.sym_int.specs.declared.span.Span.{Span}
use Rattle.sym_int.specs.declared.wide.Wide.{Wide}

-- The span inside the range, of a part that may be none.
abbrev pub inside_span : Option Inside → Option Span
inside_span (Some part) = Some part.span
inside_span None = None

-- The form of a part inside is the wide form on that part, and has its number at each state there.
pub record IsInside (wide : Wide) (part : Inside) : Type 0 where
  pub form : IsTaken (wide_on wide) (wide_cell wide) part.span part.form
  pub value : (state : State) → IsCellIn (wide_cell wide) part.span state →
      form_value part.form state ≡ wide_value wide state

-- The points of the span at which the form is below, in and above the range, and the form on those
-- in the range.
pub record IsFitted (span : Span) (wide : Wide) (range : Span) (fitted : Fitted) : Type 0 where
  pub below : IsPart (Below span wide range.lo) fitted.below
  pub inside : IsPart (Within span wide range) (inside_span fitted.inside)
  pub above : IsPart (Above span wide range.hi) fitted.above
  pub form : IfSome fitted.inside (IsInside wide)
