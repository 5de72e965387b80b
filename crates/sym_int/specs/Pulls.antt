-- The numbers of a cell that a form pulls back from a span.
use Rattle.std.specs.Prelude.{◌≡◌, ℕ, ℤ, Option, Some, None}
use Rattle.sym_int.specs.Points.{HasPoint}
use Rattle.sym_int.specs.declared.preimages.Pulled.{Pulled}
use Rattle.sym_int.specs.declared.preimages.Pulled.TheVariants as pulled

-- The number is among those that were pulled.
abbrev pub Pulls : Pulled → ℤ → Type 0
Pulls pulled.All x = Unit {0}
Pulls pulled.Never x = ⊥
Pulls (pulled.In cell span) x = HasPoint span x

-- A form over a cell pulls no number or numbers of that cell; a constant pulls all or none.
abbrev pub IsPulledOver : Option ℕ → Pulled → Type 0
IsPulledOver None (pulled.In cell span) = ⊥
IsPulledOver None pulled.All = Unit {0}
IsPulledOver None pulled.Never = Unit {0}
IsPulledOver (Some own) pulled.All = ⊥
IsPulledOver (Some own) pulled.Never = Unit {0}
IsPulledOver (Some own) (pulled.In cell span) = cell ≡ own
