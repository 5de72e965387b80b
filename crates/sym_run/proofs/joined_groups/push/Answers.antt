use Rattle.std.proofs.Common.{◌++◌, List, ap, subst, sym}
use Rattle.sym_check.specs.Checking.CheckedScripts.{checked_plan}
use Rattle.sym_path.specs.declared.path.Path.{Path}
use Rattle.sym_run.specs.Chained.{Chained}
use Rattle.sym_run.specs.Chains.{ChainFits, ChainStandsFor, IsTight, SegmentsAreTight, SegmentsFit, SegmentsStandFor}
use Rattle.sym_run.specs.Pushing.{IsPushed}
use Rattle.sym_run.proofs.KeptRecords.{closed_fits, closed_segments, closed_stands}
use Rattle.sym_run.proofs.joined_groups.push.Goals as goal

pub push_segment-requires-clause-segments : goal.push_segment-requires-clause-segments
push_segment-requires-clause-segments c =
    subst (SegmentsFit (checked_plan c.args.checked.now)) (sym c.into_parts-segments.ensures.segments) c.in_ok-chain.ensures.fits.segments

pub push_segment-requires-clause-tight : goal.push_segment-requires-clause-tight
push_segment-requires-clause-tight c =
    subst (SegmentsAreTight (checked_plan c.args.checked.now) c.args.limit) (sym c.into_parts-segments.ensures.segments) c.in_ok-chain.ensures.tight

pub returns-clause-fits : goal.returns-clause-fits
returns-clause-fits c =
    let p = checked_plan c.args.checked.now in
    subst (ChainFits p) (sym c.of_segments.ensures) (closed_fits p c.in_ok-segments.segments c.in_ok-segments.ensures.fits)

pub returns-clause-tight : goal.returns-clause-tight
returns-clause-tight c =
    let p = checked_plan c.args.checked.now in
    subst (IsTight p c.args.limit) (sym c.of_segments.ensures) c.in_ok-segments.ensures.tight

pub returns-clause-stands : goal.returns-clause-stands
returns-clause-stands c = λ first rest h k.
    let p = checked_plan c.args.checked.now in
    let left = closed_segments p first c.in_ok-chain.chain c.in_ok-chain.ensures.closed (c.in_ok-chain.ensures.stands first h) in
    subst (ChainStandsFor p (first ++ rest)) (sym c.of_segments.ensures)
    (closed_stands p (first ++ rest) c.in_ok-segments.segments
    (c.in_ok-segments.ensures.stands first rest (subst (SegmentsStandFor p first) (sym c.into_parts-segments.ensures.segments) left) k))

pub returns-clause-closed : goal.returns-clause-closed
returns-clause-closed c = ap (λ chain. chain.kept) c.of_segments.ensures

pub returns-clause-pushed : goal.returns-clause-pushed
returns-clause-pushed c =
    let p = checked_plan c.args.checked.now in
    let onto = subst (λ (ss : List (List Path)). IsPushed p c.args.limit ss c.args.segment c.in_ok-segments.segments) c.into_parts-segments.ensures.segments c.in_ok-segments.ensures.pushed in
    record {
      closed = c.in_ok-chain.chain;
      none_kept = c.in_ok-chain.ensures.closed;
      same = c.in_ok-chain.ensures.same;
      stands = c.in_ok-chain.ensures.stands;
      segments = subst (λ (chain : Chained). IsPushed p c.args.limit c.in_ok-chain.chain.segments c.args.segment chain.segments) (sym c.of_segments.ensures) onto;
    }
