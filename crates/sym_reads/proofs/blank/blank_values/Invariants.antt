-- The values so far are those of the first fields.
use Rattle.std.proofs.Common.{◌≡◌, take, map}
use Rattle.sym_reads.specs.Agreement.{kinds_of, blank_value}
use Rattle.sym_reads.proofs.blank.blank_values.Given as goal

abbrev pub invariant-fields : goal.invariant-fields
invariant-fields l = l.values.items ≡ map blank_value (kinds_of (take l.field-index l.fields))
