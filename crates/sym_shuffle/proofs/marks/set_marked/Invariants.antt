-- The values of the marks so far are set, and as many were passed over.
use Rattle.std.proofs.Common.{◌≡◌, ◌+◌, ◌-◌, ◌^◌, List, drop, length, min, take}
use Rattle.sym_base.specs.declared.values.value.Value.{Value}
use Rattle.sym_reads.specs.Agreement.{where_marked}
use Rattle.sym_shuffle.specs.Shuffling.{marked, width_of}
use Rattle.sym_shuffle.proofs.marks.set_marked.Given as goal

abbrev pub invariant-marks : goal.invariant-marks
invariant-marks l = record {
  count : l.at ≡ min (l.first + width_of (take l.index l.marks)) (2 ^ 64 - 1);
  set : (from : List Value) → take (width_of l.marks) (drop l.first l.values) ≡ marked l.marks from → length from ≡ length l.fn.fields
      → l.fields ≡ where_marked (take l.index l.marks) from l.fn.fields;
}
