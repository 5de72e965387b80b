-- What was read, and what is still read, come to the whole.
use Rattle.std.proofs.Common.{◌≡◌, ◌-◌}
use Rattle.sym_file.specs.Reading.{apart, many, value_at, values_at}
use Rattle.sym_file.proofs.Loops.{with_front}
use Rattle.sym_file.proofs.values.values.Given as goal

abbrev pub invariant-values : goal.invariant-values
invariant-values l = with_front l.values (many (apart value_at) (l.count - l.counter) l.rest) ≡ values_at l.count l.bytes
