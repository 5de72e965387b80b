use Rattle.std.proofs.Common.{◌≤◌, length, sym, subst}
use Rattle.sym_check.specs.Checking.CheckedScripts.{checked_plan}
use Rattle.sym_run.specs.Chained.{Chained}
use Rattle.sym_run.specs.Chains.{ChainFits, IsTight}
use Rattle.sym_run.specs.Covering.{Covers}
use Rattle.sym_run.specs.Growing.{TakesOne}
use Rattle.sym_run.specs.declared.opened.Open.TheVariants as opened
use Rattle.sym_run.proofs.KeptRecords.{as_wide, kept_longer}
use Rattle.sym_run.proofs.chain_records.take_kept.Goals as goal

pub take_covered-requires-clause-fits : goal.take_covered-requires-clause-fits
take_covered-requires-clause-fits c = subst (ChainFits (checked_plan c.args.settings.now.checked.now)) (sym c.replace-old.ensures.value) c.requires.fits

pub take_covered-requires-clause-tight : goal.take_covered-requires-clause-tight
take_covered-requires-clause-tight c = subst (IsTight (checked_plan c.args.settings.now.checked.now) c.args.settings.now.limit) (sym c.replace-old.ensures.value) c.requires.tight

pub take_covered-requires-clause-some : goal.take_covered-requires-clause-some
take_covered-requires-clause-some c = subst (λ (old : Chained). 1 ≤ length old.kept) (sym c.replace-old.ensures.value) c.requires.some

pub keep-requires : goal.keep-requires
keep-requires c = as_wide (checked_plan c.args.settings.now.checked.now) c.args.rec.now c.args.chain.now.kept c.requires.rec c.requires.fits.kept

pub take_covered-requires-clause-covers : goal.take_covered-requires-clause-covers
take_covered-requires-clause-covers c =
    let p = checked_plan c.args.settings.now.checked.now in
    let covers : Covers p c.args.settings.now.limit c.args.chain.now.kept c.in-Some.segment = rw c.in-Some.is at c.in_ok-segment.ensures in
    subst (λ (old : Chained). Covers p c.args.settings.now.limit old.kept c.in-Some.segment) (sym c.replace-old.ensures.value) covers

pub returns-in_ok-next-in-Some : goal.returns-in_ok-next-in-Some
returns-in_ok-next-in-Some c =
    let p = checked_plan c.args.settings.now.checked.now in
    subst (λ (old : Chained). TakesOne p c.args.settings.now.limit c.args.rec.now (opened.Chain old) c.in_ok-next-in-Some.next) c.replace-old.ensures.value c.in_ok-next-in-Some.ensures

pub returns-in_ok-keep-in-None : goal.returns-in_ok-keep-in-None
returns-in_ok-keep-in-None c =
    let p = checked_plan c.args.settings.now.checked.now in
    kept_longer p c.args.settings.now.limit c.args.rec.now c.args.chain.now c.keep.new.self c.requires.rec c.requires.fits c.requires.tight c.requires.some c.keep.ensures.segments c.in_ok-keep-in-None.ensures.kept
