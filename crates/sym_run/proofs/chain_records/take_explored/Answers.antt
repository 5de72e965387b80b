use Rattle.std.proofs.Common.{subst, sym}
use Rattle.sym_check.specs.Checking.CheckedScripts.{checked_plan}
use Rattle.sym_run.specs.Chains.{SegmentsStandFor}
use Rattle.sym_run.specs.Extended.{AreExtended}
use Rattle.sym_run.specs.declared.opened.Open.TheVariants as opened
use Rattle.sym_run.proofs.KeptRecords.{closed_segments}
use Rattle.sym_run.proofs.TakenRecords.{taken_explored}
use Rattle.sym_run.proofs.chain_records.take_explored.Goals as goal

pub returns : goal.returns
returns c =
    let p = checked_plan c.args.settings.now.checked.now in
    taken_explored p c.args.settings.now.limit c.args.rec.now (opened.Chain c.args.chain) c.in_ok-segments.segments c.open_last.result
    (λ records h. c.in_ok-segments.ensures.stands records (subst (SegmentsStandFor p records) (sym c.into_parts-segments.ensures.segments) (closed_segments p records c.args.chain c.requires.closed h)))
    (λ records h. c.in_ok-segments.ensures.extends records (subst (AreExtended p c.args.settings.now.limit records) (sym c.into_parts-segments.ensures.segments) h.segments))
    c.open_last.ensures.fits c.open_last.ensures.tight c.open_last.ensures.stands c.open_last.ensures.extends c.open_last.ensures.none
