-- The lists that list forms over integer forms give.
use Rattle.std.specs.Prelude.{List}
use Rattle.sym_base.specs.declared.values.state.State.{State}
use Rattle.sym_base.specs.declared.values.value.Value.{Value}
use Rattle.sym_base.specs.declared.values.value.Value.TheVariants.{Num}
use Rattle.sym_int.specs.Lines.{form_value}
use Rattle.sym_int.specs.declared.form.IntForm.{IntForm}
use Rattle.sym_vector.specs.Lists.{list_at}

-- The list that a form gives at a state, after the old list of its cell.
abbrev pub numbers_at : List IntForm → State → List Value → List Value
numbers_at form state old = list_at (λ own at. Num (form_value own at)) form state old
