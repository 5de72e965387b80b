-- The ranges of integer cells and of lists of numbers: what such a cell keeps of a number.
use Rattle.std.specs.Prelude.{◌≡◌, refl, ℕ, ℤ, pos, negsuc, ◌≤ℤ◌, int_le, ◌&&◌, Bool, true, false, if◌then◌else◌, List, Option, Some, None, slice_get, Result}
use Rattle.std.specs.Option.{option_and_then, ok_or}
use Rattle.sym_base.specs.declared.values.state.FaultKind.{FaultKind}
use Rattle.sym_base.specs.declared.values.state.FaultKind.TheVariants as fault
use Rattle.sym_check.specs.declared.plan.range.Range.{Range}
use Rattle.sym_check.specs.declared.plan.script.CellPlan.{CellPlan}
use Rattle.sym_check.specs.declared.plan.script.CellPlan.TheVariants as plan

-- The number lies in the range from lo to hi, which has both ends in it.
abbrev pub InRange : ℤ → ℤ → ℤ → Type 0
InRange lo hi x = (lo ≤ℤ x) × (x ≤ℤ hi)

abbrev pub in_range : Range → ℤ → Bool
in_range r x = int_le r.lo x && int_le x r.hi

-- The end of the range that is nearest to a number outside it.
abbrev pub nearest_end : Range → ℤ → ℤ
nearest_end r x = if int_le r.lo x then r.hi else r.lo

-- What is kept of a number: the number itself where it is in the range; of any other the nearest
-- end where the range clamps, and else nothing.
abbrev pub kept : Range → ℤ → Option ℤ
kept r x =
    if in_range r x then Some x
    else (if r.clamps then Some (nearest_end r x) else None)

-- The range of a cell. Words, parts and labels have none.
abbrev pub range_of : CellPlan → Option Range
range_of (plan.Int lo hi first clamp) = Some (record { lo = lo; hi = hi; clamps = clamp })
range_of (plan.Nums lo hi clamp) = Some (record { lo = lo; hi = hi; clamps = clamp })
range_of plan.Words = None
range_of (plan.Hold kinds first) = None
range_of (plan.Enum enum first) = None

-- The range of the cell with this number.
abbrev pub range_at : List CellPlan → ℕ → Option Range
range_at cells c = option_and_then range_of (slice_get cells c)

-- What the cell with this number keeps of a number. Where it keeps nothing, the group ends.
abbrev pub landed : List CellPlan → ℕ → ℤ → Result ℤ FaultKind
landed cells c x = ok_or (option_and_then (λ r. kept r x) (range_at cells c)) (fault.Over c)

abbrev pub range_clamps : Option Range → Bool
range_clamps None = false
range_clamps (Some r) = r.clamps

-- Whether the cell with this number takes the nearest end in place of a number outside its range.
abbrev pub is_clamped : List CellPlan → ℕ → Bool
is_clamped cells c = range_clamps (range_at cells c)

-- A range from 0 to 9 keeps 4, and neither 12 nor -5. Where it clamps, it keeps 9 and 0 of these.
abbrev to_nine : Bool → Range
to_nine clamps = record { lo = pos 0; hi = pos 9; clamps = clamps }

keeps_four : kept (to_nine false) (pos 4) ≡ Some (pos 4)
keeps_four = refl

keeps_no_twelve : kept (to_nine false) (pos 12) ≡ None
keeps_no_twelve = refl

keeps_nothing_below : kept (to_nine false) (negsuc 4) ≡ None
keeps_nothing_below = refl

clamps_no_four : kept (to_nine true) (pos 4) ≡ Some (pos 4)
clamps_no_four = refl

clamps_twelve : kept (to_nine true) (pos 12) ≡ Some (pos 9)
clamps_twelve = refl

clamps_below : kept (to_nine true) (negsuc 4) ≡ Some (pos 0)
clamps_below = refl
