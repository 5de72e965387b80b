-- The values of the marks so far are pushed.
use Rattle.std.proofs.Common.{◌≡◌, ◌++◌, take}
use Rattle.sym_shuffle.specs.Shuffling.{marked}
use Rattle.sym_shuffle.proofs.marks.push_marked.Given as goal

abbrev pub invariant-marks : goal.invariant-marks
invariant-marks l = l.values ≡ l.fn.values ++ marked (take l.index l.marks) l.fields
