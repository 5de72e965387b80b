use Rattle.std.proofs.Common.{◌≡◌, ◌∙◌, ◌++◌, List, ap, refl, sym, subst}
use Rattle.sym_check.specs.Checking.CheckedScripts.{checked_plan}
use Rattle.sym_path.specs.declared.path.Path.{Path}
use Rattle.sym_run.specs.Chained.{Chained}
use Rattle.sym_run.specs.Chains.{ChainFits, ChainStandsFor, IsClosed, IsTight, SegmentsAreTight, SegmentsStandFor}
use Rattle.sym_run.proofs.KeptRecords.{closed_fits, closed_segments, closed_stands}
use Rattle.sym_run.proofs.closed_joins.join_chain.Goals as goal

pub returns : goal.returns
returns c =
    let p = checked_plan c.args.checked.now in
    let limit = c.args.limit in
    let left : Chained = c.args.left.now in
    let right : Chained = c.args.right in
    let joined : List (List Path) = c.in_ok-joined.joined in
    let segments : c.into_parts-segments.result.0 ≡ left.segments = c.into_parts-segments.ensures.segments ∙ ap (λ (chain : Chained). chain.segments) c.replace.ensures.value in
    let others : c.into_parts-others.result.0 ≡ right.segments = c.into_parts-others.ensures.segments in
    record {
      fits = subst (ChainFits p) (sym c.of_segments.ensures) (closed_fits p joined c.in_ok-joined.ensures.fits);
      closed = subst IsClosed (sym c.of_segments.ensures) refl;
      stands = λ first rest h k.
          subst (ChainStandsFor p (first ++ rest)) (sym c.of_segments.ensures)
          (closed_stands p (first ++ rest) joined
          (c.in_ok-joined.ensures.stands first rest
          (subst (SegmentsStandFor p first) (sym segments) (closed_segments p first left c.requires.closed_left h))
          (subst (SegmentsStandFor p rest) (sym others) (closed_segments p rest right c.requires.closed_right k))));
      tight = λ first rest h k t u.
          subst (IsTight p limit) (sym c.of_segments.ensures)
          (c.in_ok-joined.ensures.tight first rest
          (subst (SegmentsStandFor p first) (sym segments) (closed_segments p first left c.requires.closed_left h))
          (subst (SegmentsStandFor p rest) (sym others) (closed_segments p rest right c.requires.closed_right k))
          (subst (SegmentsAreTight p limit) (sym segments) t) (subst (SegmentsAreTight p limit) (sym others) u));
    }
