-- No label so far has the name.
use Rattle.std.proofs.Common.{◌≡◌, ℕ, ◌<◌, [], false, get_or}
use Rattle.std.specs.Cmp.Lexicographic.{pointwise}
use Rattle.std.specs.Prelude.{nat_eq}
use Rattle.sym_table.proofs.field_values.label.label_in.Given as goal

abbrev pub invariant-labels : goal.invariant-labels
invariant-labels l = (k : ℕ) → k < l.label → pointwise nat_eq (get_or l.labels k []) l.text ≡ false
