-- The lists that list forms give.
use Rattle.std.specs.Prelude.{List, ◌++◌, map}
use Rattle.sym_base.specs.declared.values.state.State.{State}
use Rattle.sym_base.specs.declared.values.value.Value.{Value}

-- The list that a form gives at a state: the old list of its cell, with the values of the added
-- elements there after it. `value` is what an element is worth at a state.
abbrev pub list_at : {E : Type 0} → (E → State → Value) → List E → State → List Value → List Value
list_at value added state old = old ++ map (λ element. value element state) added
