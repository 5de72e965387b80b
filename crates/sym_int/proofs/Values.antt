-- A form's number at a state by the number of its cell, and spans with the same points.
use Rattle.std.proofs.Common.{◌≡◌, ℕ, ℤ, ◌≤ℤ◌, ◌↔◌, Some, None, refl, ap, arith}
use Rattle.std.proofs.lemmas.Int.{ints}
use Rattle.sym_base.specs.Limits.{IsNumber}
use Rattle.sym_base.specs.States.{number_at}
use Rattle.sym_base.specs.declared.values.state.State.{State}
use Rattle.sym_int.specs.Lines.{form_on, form_cell, form_value, wide_on, wide_cell, wide_value}
use Rattle.sym_int.specs.Points.{HasPoint}
use Rattle.sym_int.specs.declared.form.IntForm.{IntForm}
use Rattle.sym_int.specs.declared.form.IntForm.TheVariants as form
use Rattle.sym_int.specs.declared.wide.Wide.{Wide}
use Rattle.sym_int.specs.declared.wide.Wide.TheVariants as wide
use Rattle.sym_int.specs.declared.span.Span.{Span}
use denote.Struct.Props.{props}
use mathlib.Core.HLevel.{Σ_prop_path}

-- A form over a cell has the number that it has where the cell holds what it holds at the state.
pub form_at_cell : (own : IntForm) (state : State) (cell : ℕ) → form_cell own ≡ Some cell → form_value own state ≡ form_on own (number_at state cell)
form_at_cell (form.Const number) state cell e = cc
form_at_cell (form.Line line) state cell e = let same : line.cell ≡ cell = cc in cc

pub wide_at_cell : (own : Wide) (state : State) (cell : ℕ) → wide_cell own ≡ Some cell → wide_value own state ≡ wide_on own (number_at state cell)
wide_at_cell (wide.Const number) state cell e = cc
wide_at_cell (wide.Line line) state cell e = let same : line.cell ≡ cell = cc in cc

-- A constant has one number.
pub form_of_constant : (own : IntForm) (state : State) (x : ℤ) → form_cell own ≡ None → form_value own state ≡ form_on own x
form_of_constant (form.Const number) state x e = refl
form_of_constant (form.Line line) state x e = cc

pub wide_of_constant : (own : Wide) (state : State) (x : ℤ) → wide_cell own ≡ None → wide_value own state ≡ wide_on own x
wide_of_constant (wide.Const number) state x e = refl
wide_of_constant (wide.Line line) state x e = cc

-- The ends of a span, with what they keep.
abbrev Ends : Type 0
Ends = (p : ℤ × ℤ) × (IsNumber p.0 × (p.0 ≤ℤ p.1) × IsNumber p.1)

abbrev of_ends : Ends → Span
of_ends e = record { lo = e.0.0; hi = e.0.1; lo_in = e.1.0; ordered = e.1.1; hi_in = e.1.2 }

kept_prop : (p : ℤ × ℤ) → IsProp (IsNumber p.0 × (p.0 ≤ℤ p.1) × IsNumber p.1)
kept_prop p = hlevel props

pub same_ends : (a b : Span) → a.lo ≡ b.lo → a.hi ≡ b.hi → a ≡ b
same_ends a b e f =
    let x : Ends = ((a.lo, a.hi), (a.lo_in, a.ordered, a.hi_in)) in
    let y : Ends = ((b.lo, b.hi), (b.lo_in, b.ordered, b.hi_in)) in
    let ends : x.0 ≡ y.0 = cc in
    let p : x ≡ y = Σ_prop_path kept_prop ends in
    ap of_ends p

-- Spans with the same points are the same span.
pub same_points : (a b : Span) → ((x : ℤ) → HasPoint a x ↔ HasPoint b x) → a ≡ b
same_points a b h =
    let ao : a.lo ≤ℤ a.hi = a.ordered in
    let bo : b.lo ≤ℤ b.hi = b.ordered in
    let p : HasPoint b a.lo = (h a.lo).0 (omega (arith, ints), ao) in
    let q : HasPoint b a.hi = (h a.hi).0 (ao, omega (arith, ints)) in
    let r : HasPoint a b.lo = (h b.lo).1 (omega (arith, ints), bo) in
    let s : HasPoint a b.hi = (h b.hi).1 (bo, omega (arith, ints)) in
    same_ends a b (omega (arith, ints)) (omega (arith, ints))
