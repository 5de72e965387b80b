-- The parts of a span by what a form's numbers are at its points.
use Rattle.std.specs.Prelude.{◌≡◌, ℤ, ◌<ℤ◌, ◌≤ℤ◌, ◌⊎◌, Option, Some, None}
use Rattle.sym_int.specs.Lines.{wide_on}
use Rattle.sym_int.specs.Points.{HasPoint}
use Rattle.sym_int.specs.declared.span.Span.{Span}
use Rattle.sym_int.specs.declared.wide.Wide.{Wide}

-- The points at which the form's number is at most this.
abbrev pub AtMost : Span → Wide → ℤ → ℤ → Type 0
AtMost span wide limit x = HasPoint span x × (wide_on wide x ≤ℤ limit)

-- The points at which the form's number is above this.
abbrev pub Above : Span → Wide → ℤ → ℤ → Type 0
Above span wide limit x = HasPoint span x × (limit <ℤ wide_on wide x)

-- The points at which the form's number is below this.
abbrev pub Below : Span → Wide → ℤ → ℤ → Type 0
Below span wide limit x = HasPoint span x × (wide_on wide x <ℤ limit)

-- The points at which the form's number is from one number to another.
abbrev pub Between : Span → Wide → ℤ → ℤ → ℤ → Type 0
Between span wide lo hi x = HasPoint span x × ((lo ≤ℤ wide_on wide x) × (wide_on wide x ≤ℤ hi))

-- The points at which the form's number is a point of a range.
abbrev pub Within : Span → Wide → Span → ℤ → Type 0
Within span wide range x = HasPoint span x × HasPoint range (wide_on wide x)

-- The form's number at each point of the span is a point of the range.
abbrev pub IsWithin : Wide → Span → Span → Type 0
IsWithin wide range span = (x : ℤ) → HasPoint span x → HasPoint range (wide_on wide x)

-- The part, where there is one, begins or ends where the span does.
abbrev pub IsAtAnEnd : Span → Option Span → Type 0
IsAtAnEnd span None = Unit {0}
IsAtAnEnd span (Some part) = (part.lo ≡ span.lo) ⊎ (part.hi ≡ span.hi)
