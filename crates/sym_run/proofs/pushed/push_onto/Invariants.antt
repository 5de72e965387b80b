-- The segments that are left are tight, and with the last one they stand for the same records.
use Rattle.std.proofs.Common.{◌++◌, List, length}
use Rattle.sym_base.specs.declared.values.record.Record.{Record}
use Rattle.sym_check.specs.Checking.CheckedScripts.{checked_plan}
use Rattle.sym_path.specs.Fitting.{SegmentFits}
use Rattle.sym_path.specs.Standing.{StandsFor}
use Rattle.sym_run.specs.Chains.{SegmentsFit, SegmentsStandFor, HasFewPaths, SegmentsAreTight}
use Rattle.sym_run.proofs.ChainCuts.{IsCut}
use Rattle.sym_run.proofs.PushedSegments.{IsComposing}
use Rattle.sym_run.proofs.pushed.push_onto.Given as goal

abbrev pub invariant-ends : goal.invariant-ends
invariant-ends l =
    let p = checked_plan l.fn.checked in
    record {
      fits : SegmentsFit p l.segments.items;
      tight : SegmentsAreTight p l.limit l.segments.items;
      segment : SegmentFits p l.last;
      few : HasFewPaths p l.limit l.last;
      pushed : IsComposing p l.limit l.fn.segments.items l.fn.segment l.segments.items l.last;
      stands : (first rest : List Record) → SegmentsStandFor p first l.fn.segments.items → StandsFor p rest l.fn.segment → IsCut p (first ++ rest) l.segments.items l.last;
    }

abbrev pub decreases-ends : goal.decreases-ends
decreases-ends l = length l.segments.items
