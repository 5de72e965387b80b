-- A form on its cell's span, and the numbers of the state that a context makes.
use Rattle.std.proofs.Common.{◌≡◌, ℕ, zero, suc, ℤ, pos, ◌+ℤ◌, ◌*ℤ◌, ◌≤ℤ◌, ◌⊎◌, inl, inr, Option, Some, None, List, [], ◌∷◌, slice_get, refl, sym, ap, subst, ◌∙◌, arith}
use Rattle.std.proofs.lemmas.Int.{ints, by_lt_z}
use Rattle.sym_base.specs.States.{HoldsInt, number_at, cell_number}
use Rattle.sym_base.specs.declared.values.state.Cell.{Cell}
use Rattle.sym_base.specs.declared.values.state.Cell.TheVariants.{Enum, Int, Hold, Nums, Words}
use Rattle.sym_base.specs.declared.values.state.State.{State}
use Rattle.sym_int.specs.Elements.{IsOnSpans, IsZero, led_cell, led_cells}
use Rattle.sym_int.specs.Lines.{form_value, offset}
use Rattle.sym_int.specs.Points.{HasPoint}
use Rattle.sym_int.specs.Taken.{IsTaken}
use Rattle.sym_int.specs.declared.form.IntForm.{IntForm}
use Rattle.sym_int.specs.declared.form.IntForm.TheVariants as form
use Rattle.sym_int.specs.declared.span.Span.{Span}

-- A form taken on a span has its number at each state whose cell lies in the span.
pub taken_value : (number : ℤ → ℤ) (cell : ℕ) (span : Span) (taken : IntForm) (state : State) → IsTaken number (Some cell) span taken → HasPoint span (number_at state cell) → form_value taken state ≡ number (number_at state cell)
taken_value number cell span (form.Const own) state t p = t.same (number_at state cell) p
taken_value number cell span (form.Line own) state t p =
    by_lt_z span.lo span.hi
    (λ q.
    let named : Some own.cell ≡ Some cell = t.more q in
    let e : own.cell ≡ cell = cc in
    ap (λ (k : ℕ). own.a *ℤ number_at state k +ℤ offset own) e ∙ t.same (number_at state cell) p)
    (λ q.
    let o : span.lo ≤ℤ span.hi = span.ordered in
    let e : span.lo ≡ span.hi = omega (arith, ints) in
    let named : Some own.cell ≡ None = t.one e in
    cc)

-- A form on the span of its cell by another name of its number and of its cell.
pub on_spans : (f g : ℤ → ℤ) (own other : Option ℕ) (spans : ℕ → Option Span) (after : IntForm) → ((x : ℤ) → f x ≡ g x) → own ≡ other → IsOnSpans f own spans after → IsOnSpans g other spans after
on_spans f g own other spans after same e h =
    let number : f ≡ g = λ i x. same x i in
    subst (λ (cell : Option ℕ). IsOnSpans g cell spans after) e (subst (λ (number : ℤ → ℤ). IsOnSpans number own spans after) number h)

zero_value : (form : IntForm) (state : State) → IsZero form → pos 0 ≡ form_value form state
zero_value (form.Const number) state z = sym z
zero_value (form.Line line) state z = absurd z

led_number_of : (cell : Cell) (x : ℤ) → ((y : ℤ) × (Some cell ≡ Some (Int y))) ⊎ (pos 0 ≡ x) → cell_number (Some (led_cell x cell)) ≡ x
led_number_of (Int old) x h = refl
led_number_of (Enum label) x h = elim h [ inl p ↦ cc | inr z ↦ z ]
led_number_of (Hold parts) x h = elim h [ inl p ↦ cc | inr z ↦ z ]
led_number_of (Nums numbers) x h = elim h [ inl p ↦ cc | inr z ↦ z ]
led_number_of (Words words) x h = elim h [ inl p ↦ cc | inr z ↦ z ]

-- The number that a cell holds there is its form's.
pub led_number : (state : State) (forms : List IntForm) (cells : List Cell) (k : ℕ) (form : IntForm) → slice_get forms k ≡ Some form → ((y : ℤ) × (slice_get cells k ≡ Some (Int y))) ⊎ (pos 0 ≡ form_value form state) → cell_number (slice_get (led_cells state forms cells) k) ≡ form_value form state
led_number state [] cells k form e h = cc
led_number state (own ∷ forms) [] k form e h = elim h [ inl p ↦ cc | inr z ↦ z ]
led_number state (own ∷ forms) (cell ∷ cells) zero form e h =
    let same : own ≡ form = cc in
    let value : form_value own state ≡ form_value form state = ap (λ (f : IntForm). form_value f state) same in
    led_number_of cell (form_value own state) (elim h [ inl p ↦ inl p | inr z ↦ inr (z ∙ sym value) ]) ∙ value
led_number state (own ∷ forms) (cell ∷ cells) (suc k) form e h = led_number state forms cells k form e h

pub number_there : (state : State) (forms : List IntForm) (k : ℕ) (form : IntForm) → slice_get forms k ≡ Some form → ((y : ℤ) × HoldsInt state k y) ⊎ IsZero form → cell_number (slice_get (led_cells state forms state.cells) k) ≡ form_value form state
number_there state forms k form e h = led_number state forms state.cells k form e (elim h [ inl p ↦ inl (p.0, p.1.held) | inr z ↦ inr (zero_value form state z) ])
