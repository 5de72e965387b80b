-- The points of a span.
use Rattle.std.specs.Prelude.{ℤ, ◌≤ℤ◌, ◌↔◌, ◌⊎◌, Option, Some, None}
use Rattle.sym_base.specs.Limits.{IsNumber}
use Rattle.sym_int.specs.declared.span.Span.{Span}

-- The number lies between the ends.
abbrev pub HasPoint : Span → ℤ → Type 0
HasPoint span x = (span.lo ≤ℤ x) × (x ≤ℤ span.hi)

-- These can be the ends of a span.
abbrev pub AreEnds : ℤ → ℤ → Type 0
AreEnds lo hi = IsNumber lo × (lo ≤ℤ hi) × IsNumber hi

-- The span has the points of both and no others.
abbrev pub IsUnion : Span → Span → Span → Type 0
IsUnion union left right = (x : ℤ) → HasPoint union x ↔ (HasPoint left x ⊎ HasPoint right x)

-- The span of all numbers with the property; none exactly where no number has it.
abbrev pub IsPart : (ℤ → Type 0) → Option Span → Type 0
IsPart property (Some span) = (x : ℤ) → HasPoint span x ↔ property x
IsPart property None = (x : ℤ) → property x → ⊥
