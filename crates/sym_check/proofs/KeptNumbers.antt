-- What the cells of a well-formed plan keep of numbers lies in their ranges.
use Rattle.std.proofs.Common.{◌≡◌, refl, ap, subst, ℕ, ℤ, ◌≤ℤ◌, Bool, true, false, ◌&&◌, List, Option, Some, None, Result, Ok, Err, arith}
use Rattle.std.specs.Prelude.{int_le, slice_get, if◌then◌else◌, IfOk, IfErr, IsSome}
use Rattle.std.specs.List.{All}
use Rattle.std.specs.Option.{option_and_then, ok_or}
use Rattle.std.proofs.lemmas.Int.{ints}
use Rattle.std.proofs.lemmas.List.Elements.{All-get_or}
use Rattle.std.proofs.lemmas.Option.{slice_get_within, get_or_from_slice_get, option_and_then_some}
use Rattle.sym_base.specs.declared.values.state.State.{State}
use Rattle.sym_base.specs.declared.values.state.FaultKind.{FaultKind}
use Rattle.sym_base.specs.declared.values.state.FaultKind.TheVariants as fault
use Rattle.sym_base.specs.Limits.{IsNumber}
use Rattle.sym_check.specs.declared.plan.range.Range.{Range}
use Rattle.sym_check.specs.declared.plan.script.EnumPlan.{EnumPlan}
use Rattle.sym_check.specs.declared.plan.script.CellPlan.{CellPlan}
use Rattle.sym_check.specs.declared.plan.script.CellPlan.TheVariants as plan
use Rattle.sym_check.specs.Meaning.Arithmetic.{and_then}
use Rattle.sym_check.specs.Plan.CellKinds.{IsIntCell, IsNumsCell}
use Rattle.sym_check.specs.Meaning.Fitting.{FitsFault}
use Rattle.sym_check.specs.Plan.Ranges.{InRange, in_range, nearest_end, kept, range_of, range_at, landed}
use Rattle.sym_check.specs.Plan.ScriptPlans.{ScriptPlan}
use Rattle.sym_check.specs.Meaning.Updates.{stored}
use Rattle.sym_check.specs.Plan.WellFormed.{IsCell}

in_range_is : (r : Range) (x : ℤ) → in_range r x ≡ true → InRange r.lo r.hi x
in_range_is r x e = grind (arith, ints, e)

at_end : (x : ℤ) → x ≤ℤ x
at_end x = omega (arith, ints)

ends_in_order : (lo hi x : ℤ) → InRange lo hi x → lo ≤ℤ hi
ends_in_order lo hi x h = let (least, most) = h in omega (arith, ints, least, most)

nearest_in : (r : Range) (x : ℤ) → r.lo ≤ℤ r.hi → InRange r.lo r.hi (nearest_end r x)
nearest_in r x ordered = go (int_le r.lo x)
  where
    go : (b : Bool) → InRange r.lo r.hi (if b then r.hi else r.lo)
    go true = (ordered, at_end r.hi)
    go false = (at_end r.lo, ordered)

-- A range that has its ends in order keeps numbers in it.
pub kept_in : (r : Range) (x y : ℤ) → r.lo ≤ℤ r.hi → kept r x ≡ Some y → InRange r.lo r.hi y
kept_in r x y ordered = go (in_range r x) refl r.clamps
  where
    go : (within : Bool) → in_range r x ≡ within → (clamps : Bool) → (if within then Some x else (if clamps then Some (nearest_end r x) else None)) ≡ Some y → InRange r.lo r.hi y
    go true within clamps e = let same : x ≡ y = cc in subst (λ (z : ℤ). InRange r.lo r.hi z) same (in_range_is r x within)
    go false outside true e = let same : nearest_end r x ≡ y = cc in subst (λ (z : ℤ). InRange r.lo r.hi z) same (nearest_in r x ordered)
    go false outside false e = absurd (cc)

-- The range of a well-formed cell is one of numbers, with its ends in order.
abbrev pub IsOfNumbers : Range → Type 0
IsOfNumbers r = IsNumber r.lo × (r.lo ≤ℤ r.hi) × IsNumber r.hi

of_numbers : (lo hi : ℤ) (clamp : Bool) (r : Range) → IsNumber lo × (lo ≤ℤ hi) × IsNumber hi → ◌≡◌ {A = Option Range} (Some (record { lo = lo; hi = hi; clamps = clamp })) (Some r) → IsOfNumbers r
of_numbers lo hi clamp r h e = let same : record { lo = lo; hi = hi; clamps = clamp } ≡ r = cc in subst IsOfNumbers same h

pub cell_ranged : (enums : List EnumPlan) (c : CellPlan) (r : Range) → IsCell enums c → range_of c ≡ Some r → IsOfNumbers r
cell_ranged enums (plan.Int lo hi first clamp) r h e = of_numbers lo hi clamp r (h.0, ends_in_order lo hi first h.2, h.1) e
cell_ranged enums (plan.Nums lo hi clamp) r h e = of_numbers lo hi clamp r (h.0, h.2, h.1) e
cell_ranged enums plan.Words r h e = absurd (cc)
cell_ranged enums (plan.Hold kinds first) r h e = absurd (cc)
cell_ranged enums (plan.Enum of first) r h e = absurd (cc)

-- The cell with this number is well formed.
cell_at : (enums : List EnumPlan) (cells : List CellPlan) (c : ℕ) (a : CellPlan) → All (IsCell enums) cells → slice_get cells c ≡ Some a → IsCell enums a
cell_at enums cells c a h e =
    subst (IsCell enums) (get_or_from_slice_get cells c a a e) (All-get_or (IsCell enums) cells c a (slice_get_within cells c a e) h)

-- What a cell keeps lies in its range.
pub landed_in : (enums : List EnumPlan) (cells : List CellPlan) (c : ℕ) (r : Range) (x y : ℤ) → All (IsCell enums) cells → range_at cells c ≡ Some r → landed cells c x ≡ Ok y → InRange r.lo r.hi y
landed_in enums cells c r x y h ranged e = go (kept r x) refl (rw ranged at e)
  where
    ordered : r.lo ≤ℤ r.hi
    ordered = option_and_then_some range_of (slice_get cells c) r ranged (λ a there own. (cell_ranged enums a r (cell_at enums cells c a h there) own).1)

    go : (o : Option ℤ) → kept r x ≡ o → ok_or o (fault.Over c) ≡ Ok y → InRange r.lo r.hi y
    go None k e = absurd (cc)
    go (Some z) k e = kept_in r x y ordered (cc)

pub int_landed : (enums : List EnumPlan) (cells : List CellPlan) (c : ℕ) (x y : ℤ) → All (IsCell enums) cells → (w : IsIntCell cells c) → landed cells c x ≡ Ok y → InRange w.lo w.hi y
int_landed enums cells c x y h w e = landed_in enums cells c (record { lo = w.lo; hi = w.hi; clamps = w.clamp }) x y h (ap (λ o. option_and_then range_of o) w.is) e

pub nums_landed : (enums : List EnumPlan) (cells : List CellPlan) (c : ℕ) (x y : ℤ) → All (IsCell enums) cells → (w : IsNumsCell cells c) → landed cells c x ≡ Ok y → InRange w.lo w.hi y
nums_landed enums cells c x y h w e = landed_in enums cells c (record { lo = w.lo; hi = w.hi; clamps = w.clamp }) x y h (ap (λ o. option_and_then range_of o) w.is) e

-- What is so of each state that storing a number leads to.
pub stored_in : (p : ScriptPlan) (P : State → Type 0) (s : State) (c : ℕ) (put : ℤ → State → State) (x : ℤ) → ((y : ℤ) → landed p.cells c x ≡ Ok y → P (put y s)) → IfOk (stored p c put x s) P
stored_in p P s c put x step = go (landed p.cells c x) refl
  where
    go : (r : Result ℤ FaultKind) → landed p.cells c x ≡ r → IfOk (and_then (λ y. Ok (put y s)) r) P
    go (Ok y) e = step y e
    go (Err f) e = tt

-- A number that isn't kept ends the group with a fault of its cell.
pub stored_fits : (p : ScriptPlan) (s : State) (c : ℕ) (put : ℤ → State → State) (x : ℤ) → FitsFault p (fault.Over c) → IfErr (stored p c put x s) (FitsFault p)
stored_fits p s c put x h = go (option_and_then (λ r. kept r x) (range_at p.cells c))
  where
    go : (o : Option ℤ) → IfErr (and_then (λ y. Ok (put y s)) (ok_or o (fault.Over c))) (FitsFault p)
    go (Some y) = tt
    go None = h
