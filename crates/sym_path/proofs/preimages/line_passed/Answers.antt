use Rattle.std.proofs.Common.{◌↔◌, ℤ}
use Rattle.sym_base.specs.Limits.{IsNumber}
use Rattle.sym_int.specs.Lines.{form_on}
use Rattle.sym_int.specs.Points.{HasPoint}
use Rattle.sym_int.specs.declared.form.IntForm.TheVariants as number
use Rattle.sym_path.proofs.Pulled.{line_in, line_never}
use Rattle.sym_path.proofs.preimages.line_passed.Goals as goal

pub returns-in-In : goal.returns-in-In
returns-in-In c =
    let exact : (x : ℤ) → IsNumber x → (HasPoint c.in-In.pulled x ↔ HasPoint c.args.need.now (form_on (number.Line c.in-Line.line) x)) = rw c.in-Line.is at c.in-In.ensures.exact in
    rw c.in-Line.is (line_in c.args.cell c.args.span.now c.args.need.now c.in-Line.line c.if-line-cell.true c.in-In.pulled c.meet.result exact c.meet.ensures)

pub returns-in-Never : goal.returns-in-Never
returns-in-Never c =
    let exact : (x : ℤ) → IsNumber x → (⊥ ↔ HasPoint c.args.need.now (form_on (number.Line c.in-Line.line) x)) = rw c.in-Line.is at c.in-Never.ensures.exact in
    rw c.in-Line.is (line_never c.args.cell c.args.span.now c.args.need.now c.in-Line.line c.if-line-cell.true (λ x n h. (exact x n).1 h))
