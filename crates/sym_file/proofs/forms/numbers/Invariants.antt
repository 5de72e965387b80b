-- What was read, and what is still read, come to the whole.
use Rattle.std.proofs.Common.{◌≡◌, ◌-◌}
use Rattle.sym_file.specs.Reading.{apart, many, number_at}
use Rattle.sym_file.proofs.Loops.{with_front}
use Rattle.sym_file.proofs.forms.numbers.Given as goal

abbrev pub invariant-numbers : goal.invariant-numbers
invariant-numbers l = with_front l.added (many (apart number_at) (l.count - l.counter) l.rest) ≡ many (apart number_at) l.count l.bytes
