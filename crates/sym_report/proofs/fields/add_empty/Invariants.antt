-- The fields that were added are those of the first items.
use Rattle.std.proofs.Common.{◌≡◌, ◌++◌, take}
use Rattle.sym_report.specs.Csvs.{empty_fields}
use Rattle.sym_report.proofs.fields.add_empty.Given as goal

abbrev pub invariant-names : goal.invariant-names
invariant-names l = l.fields ≡ l.initial.fields ++ empty_fields (take l._name-index l.names)
