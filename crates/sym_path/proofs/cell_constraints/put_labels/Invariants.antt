-- The label is put into the first forms, and the others are as they were.
use Rattle.std.proofs.Common.{◌≡◌}
use Rattle.sym_vector.proofs.Changes.{Changed}
use Rattle.sym_path.specs.Narrowing.{with_label}
use Rattle.sym_path.proofs.cell_constraints.put_labels.Given as goal

abbrev pub invariant-forms : goal.invariant-forms
invariant-forms l = Changed (λ old new. new ≡ with_label l.cell l.label old) l.initial.forms l.forms l.form-index
