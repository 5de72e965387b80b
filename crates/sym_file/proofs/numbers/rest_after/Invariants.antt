-- The first bytes are those of the text, and the rest is to be compared.
use Rattle.std.proofs.Common.{◌-◌, length}
use Rattle.sym_file.proofs.Fronts.{IsCompared}
use Rattle.sym_file.proofs.numbers.rest_after.Given as goal

abbrev pub invariant-compared : goal.invariant-compared
invariant-compared l = IsCompared l.text l.bytes l.index

abbrev pub decreases-compared : goal.decreases-compared
decreases-compared l = length l.text - l.index
