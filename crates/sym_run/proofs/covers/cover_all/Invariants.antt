-- The segments stand for those that were given and the first of the kept records.
use Rattle.std.proofs.Common.{◌≤◌, ◌++◌, List, length, take}
use Rattle.sym_base.specs.declared.values.record.Record.{Record}
use Rattle.sym_check.specs.Checking.CheckedScripts.{checked_plan}
use Rattle.sym_run.specs.Chains.{SegmentsAreTight, SegmentsFit, SegmentsStandFor}
use Rattle.sym_run.proofs.covers.cover_all.Given as goal

abbrev pub invariant-records : goal.invariant-records
invariant-records l =
    let p = checked_plan l.fn.checked in
    record {
      some : 1 ≤ l.index → 1 ≤ length l.covering;
      fits : SegmentsFit p l.covering;
      tight : SegmentsAreTight p l.limit l.covering;
      stands : (records : List Record) → SegmentsStandFor p records l.fn.segments → SegmentsStandFor p (records ++ take l.index l.fn.kept) l.covering;
    }
