-- The numbers so far are added.
use Rattle.std.proofs.Common.{take}
use Rattle.sym_known.specs.Closing.{IsLonger}
use Rattle.sym_known.proofs.plain_paths.add_numbers.Given as goal

abbrev pub invariant-numbers : goal.invariant-numbers
invariant-numbers l = IsLonger l.fn.added (take l.index l.numbers) l.longer
