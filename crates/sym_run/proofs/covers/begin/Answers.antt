use Rattle.std.proofs.Common.{◌∷◌, [], refl, subst, sym, arith}
use Rattle.std.proofs.lemmas.List.Elements.{All-cons, All-nil}
use Rattle.sym_check.specs.Checking.CheckedScripts.{checked_plan}
use Rattle.sym_path.specs.Fitting.{SegmentFits}
use Rattle.sym_run.specs.Chains.{HasFewPaths, SegmentsAreTight, SegmentsFit, SegmentsStandFor}
use Rattle.sym_run.specs.Extended.{AreExtended}
use Rattle.sym_run.proofs.Extensions.{one_extended}
use Rattle.sym_run.proofs.TightChains.{tight_one}
use Rattle.sym_run.proofs.covers.begin.Goals as goal

pub returns-clause-fits : goal.returns-clause-fits
returns-clause-fits c =
    let p = checked_plan c.args.settings.now.checked.now in
    subst (SegmentsFit p) (sym c.of_one.ensures) (All-cons (SegmentFits p) c.in_ok-own.own [] c.in_ok-own.ensures.fits (All-nil (SegmentFits p)))

pub returns-clause-tight : goal.returns-clause-tight
returns-clause-tight c =
    let p = checked_plan c.args.settings.now.checked.now in
    let own = c.in_ok-own.ensures.few in
    let few : HasFewPaths p c.args.settings.now.limit c.in_ok-own.own = omega arith in
    subst (SegmentsAreTight p c.args.settings.now.limit) (sym c.of_one.ensures) (tight_one p c.args.settings.now.limit c.in_ok-own.own few)

pub returns-clause-stands : goal.returns-clause-stands
returns-clause-stands c =
    let p = checked_plan c.args.settings.now.checked.now in
    subst (SegmentsStandFor p (c.args.rec.now ∷ [])) (sym c.of_one.ensures) (c.args.rec.now ∷ [], [], refl, c.in_ok-own.ensures.stands, refl)

pub returns-clause-extends : goal.returns-clause-extends
returns-clause-extends c =
    let p = checked_plan c.args.settings.now.checked.now in
    let limit = c.args.settings.now.limit in
    subst (AreExtended p limit (c.args.rec.now ∷ [])) (sym c.of_one.ensures) (one_extended p limit c.args.rec.now c.in_ok-own.own c.in_ok-own.ensures.stands)
