-- The numbers that forms stand for.
use Rattle.std.specs.Prelude.{ℕ, ℤ, ◌+ℤ◌, ◌*ℤ◌, Option, Some, None}
use Rattle.sym_base.specs.States.{number_at}
use Rattle.sym_base.specs.declared.values.state.State.{State}
use Rattle.sym_int.specs.Offsets.{joined}
use Rattle.sym_int.specs.declared.form.IntForm.{IntForm}
use Rattle.sym_int.specs.declared.form.IntForm.TheVariants as form
use Rattle.sym_int.specs.declared.form.Line.{Line}
use Rattle.sym_int.specs.declared.wide.Wide.{Wide}
use Rattle.sym_int.specs.declared.wide.Wide.TheVariants as wide

-- What a line adds to the product of its slope and its cell's number.
abbrev pub offset : Line → ℤ
offset line = joined line.high line.low

-- A form's number where the cell that it names holds x.
abbrev pub form_on : IntForm → ℤ → ℤ
form_on (form.Const number) x = number.value
form_on (form.Line line) x = line.a *ℤ x +ℤ offset line

abbrev pub wide_on : Wide → ℤ → ℤ
wide_on (wide.Const number) x = number.value
wide_on (wide.Line line) x = line.a *ℤ x +ℤ line.b

-- The cell that a form names; none of a constant.
abbrev pub form_cell : IntForm → Option ℕ
form_cell (form.Const number) = None
form_cell (form.Line line) = Some line.cell

abbrev pub wide_cell : Wide → Option ℕ
wide_cell (wide.Const number) = None
wide_cell (wide.Line line) = Some line.cell

-- A form's number at a state.
abbrev pub form_value : IntForm → State → ℤ
form_value (form.Const number) state = number.value
form_value (form.Line line) state = line.a *ℤ number_at state line.cell +ℤ offset line

abbrev pub wide_value : Wide → State → ℤ
wide_value (wide.Const number) state = number.value
wide_value (wide.Line line) state = line.a *ℤ number_at state line.cell +ℤ line.b
