-- The segments stand for the left ones' records and then those of the right ones so far.
use Rattle.std.proofs.Common.{◌≤◌, ◌++◌, List, length}
use Rattle.sym_base.specs.declared.values.record.Record.{Record}
use Rattle.sym_check.specs.Checking.CheckedScripts.{checked_plan}
use Rattle.sym_run.specs.Chains.{SegmentsAreTight, SegmentsFit, SegmentsStandFor}
use Rattle.sym_run.proofs.joined_groups.push_others.Given as goal

abbrev pub invariant-segments : goal.invariant-segments
invariant-segments l =
    let p = checked_plan l.fn.checked in
    record {
      some : 1 ≤ length l.yielded → 1 ≤ length l.joined;
      fits : SegmentsFit p l.joined;
      tight : SegmentsAreTight p l.limit l.joined;
      stands : (first rest : List Record) → SegmentsStandFor p first l.fn.left → SegmentsStandFor p rest l.yielded → SegmentsStandFor p (first ++ rest) l.joined;
    }
