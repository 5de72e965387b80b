-- The number is put into the first forms, and the others are as they were.
use Rattle.sym_vector.proofs.Changes.{Changed}
use Rattle.sym_path.specs.Narrowing.{NumberIsPut}
use Rattle.sym_path.proofs.cell_constraints.put_numbers.Given as goal

abbrev pub invariant-forms : goal.invariant-forms
invariant-forms l = Changed (NumberIsPut l.cell l.value) l.initial.forms l.forms l.form-index
