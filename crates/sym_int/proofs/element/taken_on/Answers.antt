use Rattle.std.proofs.Common.{ℤ, Option, sym, subst, ◌+ℤ◌, ◌*ℤ◌}
use Rattle.sym_int.specs.Elements.{IsOnSpan}
use Rattle.sym_int.specs.declared.span.Span.{Span}
use Rattle.sym_int.proofs.element.taken_on.Goals as goal

pub returns-in-Some-clause-form : goal.returns-in-Some-clause-form
returns-in-Some-clause-form c =
    let line = c.in-Line.line in
    let taken = rw c.in-Line.is at c.taken.ensures.form in
    rw c.in-Line.is (subst (λ (o : Option Span). IsOnSpan (λ (x : ℤ). line.a *ℤ x +ℤ line.b) line.cell o c.taken.result) c.in-Some.ensures taken)

pub returns-in-Some-clause-value : goal.returns-in-Some-clause-value
returns-in-Some-clause-value c = λ state h.
    let value = rw c.in-Line.is at (c.taken.ensures.value state) in
    rw c.in-Line.is (value (h c.in-Line.line.cell c.in-Some.span.now (sym c.in-Some.ensures)))
