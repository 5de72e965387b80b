-- The segment fits, and stands for the records of the segments so far.
use Rattle.std.proofs.Common.{take}
use Rattle.sym_check.specs.Checking.CheckedScripts.{checked_plan}
use Rattle.sym_path.specs.Fitting.{SegmentFits}
use Rattle.sym_uses.specs.Segments.{StandsInOrder}
use Rattle.sym_uses.proofs.segments.all_in_one.Given as goal

abbrev pub invariant-segments : goal.invariant-segments
invariant-segments l = record {
  fits : SegmentFits (checked_plan l.checked) l.whole;
  stands : StandsInOrder (checked_plan l.checked) (take l.next-index l.segments) l.whole;
}
