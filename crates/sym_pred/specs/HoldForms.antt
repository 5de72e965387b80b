-- The parts that hold forms give.
use Rattle.std.specs.Prelude.{◌≡◌, List}
use Rattle.sym_base.specs.States.{parts_at}
use Rattle.sym_base.specs.declared.values.state.State.{State}
use Rattle.sym_base.specs.declared.values.value.Value.{Value}
use Rattle.sym_pred.specs.declared.form.HoldForm.{HoldForm}
use Rattle.sym_pred.specs.declared.form.HoldForm.TheVariants.{Const, Copy}

-- The parts that a form gives at a state: its own, or those of the cell that it copies.
abbrev pub parts_value : HoldForm → State → List Value
parts_value (Const parts) state = parts
parts_value (Copy cell) state = parts_at state cell

-- The form after another one: a copy becomes the form of the copied cell.
abbrev pub composed : HoldForm → HoldForm → HoldForm
composed (Const parts) inner = Const parts
composed (Copy cell) inner = inner

-- The cell that the form copies holds, in the second state, what `inner` gives at the first.
abbrev pub Leads : HoldForm → HoldForm → State → State → Type 0
Leads (Const parts) inner first second = Unit {0}
Leads (Copy cell) inner first second = parts_at second cell ≡ parts_value inner first
