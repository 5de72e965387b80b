-- The marks so far and those that are left are all.
use Rattle.std.proofs.Common.{◌≡◌, ◌+◌, ◌≤◌, drop}
use Rattle.sym_shuffle.specs.Shuffling.{width_of}
use Rattle.sym_shuffle.proofs.marks.width_of.Given as goal

abbrev pub invariant-marks : goal.invariant-marks
invariant-marks l = record {
  counted : l.width + width_of (drop l.mark-index l.marks) ≡ width_of l.marks;
  few : l.width ≤ l.mark-index;
}
