use Rattle.std.proofs.Common.{ap, arith, length, subst, sym}
use Rattle.sym_check.specs.Checking.CheckedScripts.{checked_plan}
use Rattle.sym_run.specs.Chains.{SegmentsStandFor}
use Rattle.sym_run.specs.declared.opened.Open.TheVariants as opened
use Rattle.sym_run.proofs.KeptRecords.{covered_stands}
use Rattle.sym_run.proofs.TakenRecords.{taken_explored}
use Rattle.sym_run.proofs.chain_records.take_covered.Goals as goal

pub returns : goal.returns
returns c =
    let p = checked_plan c.args.settings.now.checked.now in
    taken_explored p c.args.settings.now.limit c.args.rec.now (opened.Chain c.args.chain) c.in_ok-segments-2.segments c.open_last.result
    (λ records h.
    c.in_ok-segments-2.ensures.stands records
    (covered_stands p c.args.chain c.in_ok-segments.segments
    (λ first s. c.in_ok-segments.ensures.stands first c.args.chain.kept (subst (SegmentsStandFor p first) (sym c.into_parts-segments.ensures.segments) s) c.requires.covers.stands)
    records h))
    (λ records h. absurd (omega (arith, ap length h.closed, c.requires.some)))
    c.open_last.ensures.fits c.open_last.ensures.tight c.open_last.ensures.stands c.open_last.ensures.extends c.open_last.ensures.none
