use Rattle.std.proofs.Common.{◌∙◌, ◌++◌, subst, sym}
use Rattle.std.specs.List.{All}
use Rattle.sym_check.specs.Checking.CheckedScripts.{checked_plan}
use Rattle.sym_check.specs.Meaning.Validity.{IsRecord}
use Rattle.sym_run.specs.Chains.{SegmentsFit, SegmentsStandFor}
use Rattle.sym_run.proofs.KeptRecords.{segments_joined}
use Rattle.sym_run.proofs.joined_groups.join_segments.Goals as goal

pub push_all-requires-clause-left : goal.push_all-requires-clause-left
push_all-requires-clause-left c =
    subst (SegmentsFit (checked_plan c.args.checked.now)) (sym c.into_parts-segments.ensures.segments) c.in_ok-left.ensures.fits.segments

pub push_all-requires-clause-right : goal.push_all-requires-clause-right
push_all-requires-clause-right c =
    subst (SegmentsFit (checked_plan c.args.checked.now)) (sym c.into_parts-others.ensures.segments) c.requires.right.segments

pub returns-clause-fits : goal.returns-clause-fits
returns-clause-fits c =
    let p = checked_plan c.args.checked.now in
    record {
      segments = subst (SegmentsFit p) (sym c.of_parts.ensures.segments) c.in_ok-segments.ensures.fits;
      kept = subst (All (IsRecord p)) (sym (c.of_parts.ensures.kept ∙ c.into_parts-others.ensures.kept)) c.requires.right.kept;
    }

pub returns-clause-stands : goal.returns-clause-stands
returns-clause-stands c = λ first rest h k.
    let p = checked_plan c.args.checked.now in
    segments_joined p c.in_ok-left.left c.args.right c.of_parts.result c.in_ok-left.ensures.closed
    (c.of_parts.ensures.kept ∙ c.into_parts-others.ensures.kept)
    (λ a b s t. subst (SegmentsStandFor p (a ++ b)) (sym c.of_parts.ensures.segments)
    (c.in_ok-segments.ensures.stands a b (subst (SegmentsStandFor p a) (sym c.into_parts-segments.ensures.segments) s) (subst (SegmentsStandFor p b) (sym c.into_parts-others.ensures.segments) t)))
    first rest (c.in_ok-left.ensures.stands first h) k
