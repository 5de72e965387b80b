use Rattle.std.proofs.Common.{◌≡◌, ℕ, ℤ, Option, Some, ◌+ℤ◌, ◌*ℤ◌, slice_get, sym, ap, subst, ◌∙◌}
use Rattle.sym_base.specs.States.{number_at}
use Rattle.sym_int.proofs.Led.{number_there, on_spans}
use Rattle.sym_int.specs.Elements.{IsComposed, led_to}
use Rattle.sym_int.specs.Lines.{form_on, form_cell, form_value, wide_on, wide_cell, offset}
use Rattle.sym_int.specs.declared.form.IntForm.{IntForm}
use Rattle.sym_int.specs.declared.form.IntForm.TheVariants as form
use Rattle.sym_int.specs.declared.span.Span.{Span}
use Rattle.sym_int.proofs.element.led_through.Goals as goal

pub returns-in-Some-clause-element : goal.returns-in-Some-clause-element
returns-in-Some-clause-element c =
    let line = c.in-Line.line in
    let inner = c.in-Some.inner.now in
    let wide = c.through-wide.result in
    let spans : ℕ → Option Span = slice_get c.args.context.now.spans in
    let points : (x : ℤ) → wide_on wide x ≡ form_on (form.Line line) (form_on inner x) = λ x. rw c.in-Line.is at (c.through-wide.ensures.points x) in
    let named : form_cell c.args.form.now ≡ Some line.cell = ap form_cell c.in-Line.is in
    let cell : wide_cell wide ≡ form_cell inner = c.through-wide.ensures.cell (λ e. cc) in
    rw c.in-Line.is
    (subst (λ (o : Option IntForm). IsComposed (form.Line line) o spans c.taken_on.result) c.in-Some.ensures
    (on_spans (wide_on wide) (λ (x : ℤ). form_on (form.Line line) (form_on inner x)) (wide_cell wide) (form_cell inner) spans c.taken_on.result points cell c.taken_on.ensures.form))

pub returns-in-Some-clause-value : goal.returns-in-Some-clause-value
returns-in-Some-clause-value c = λ state h.
    let line = c.in-Line.line in
    let inner = c.in-Some.inner.now in
    let there : number_at (led_to c.args.context.now state) line.cell ≡ form_value inner state = number_there state c.args.context.now.forms line.cell inner (sym c.in-Some.ensures) (h.others line.cell inner (sym c.in-Some.ensures)) in
    let value = rw c.in-Line.is at (c.through-wide.ensures.value state) in
    rw c.in-Line.is (c.taken_on.ensures.value state h.spans ∙ value ∙ ap (λ (x : ℤ). line.a *ℤ x +ℤ offset line) (sym there))
