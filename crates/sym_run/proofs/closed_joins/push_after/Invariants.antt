-- With the last one, the segments that are left stand for the same records. They are tight if they
-- were, and then the last one has few paths.
use Rattle.std.proofs.Common.{◌++◌, List, length}
use Rattle.sym_base.specs.declared.values.record.Record.{Record}
use Rattle.sym_check.specs.Checking.CheckedScripts.{checked_plan}
use Rattle.sym_path.specs.Fitting.{SegmentFits}
use Rattle.sym_path.specs.Standing.{StandsFor}
use Rattle.sym_run.specs.Chains.{SegmentsFit, SegmentsStandFor, HasFewPaths, SegmentsAreTight}
use Rattle.sym_run.proofs.ChainCuts.{IsCut}
use Rattle.sym_run.proofs.closed_joins.push_after.Given as goal

abbrev pub invariant-ends : goal.invariant-ends
invariant-ends l =
    let p = checked_plan l.fn.checked in
    record {
      fits : SegmentsFit p l.segments.items;
      segment : SegmentFits p l.last;
      stands : (first rest : List Record) → SegmentsStandFor p first l.fn.segments.items → StandsFor p rest l.fn.segment → IsCut p (first ++ rest) l.segments.items l.last;
      tight : (first rest : List Record) → SegmentsStandFor p first l.fn.segments.items → StandsFor p rest l.fn.segment → SegmentsAreTight p l.limit l.fn.segments.items → HasFewPaths p l.limit l.fn.segment → SegmentsAreTight p l.limit l.segments.items × HasFewPaths p l.limit l.last;
    }

abbrev pub decreases-ends : goal.decreases-ends
decreases-ends l = length l.segments.items
