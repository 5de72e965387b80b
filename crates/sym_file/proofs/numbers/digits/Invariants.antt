-- The digits so far, and what is still read.
use Rattle.std.proofs.Common.{◌-◌, length}
use Rattle.sym_file.proofs.Fronts.{AreDigits}
use Rattle.sym_file.proofs.numbers.digits.Given as goal

abbrev pub invariant-digits : goal.invariant-digits
invariant-digits l = AreDigits l.first l.bytes l.index l.number

abbrev pub decreases-digits : goal.decreases-digits
decreases-digits l = length l.bytes - l.index
