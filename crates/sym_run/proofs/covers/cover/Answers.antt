use Rattle.std.proofs.Common.{◌≤◌, List, sym, subst, take, length, arith}
use Rattle.sym_base.specs.declared.values.record.Record.{Record}
use Rattle.sym_check.specs.Checking.CheckedScripts.{checked_plan}
use Rattle.sym_check.specs.Meaning.Validity.{IsRecord}
use Rattle.sym_path.specs.Standing.{StandsFor}
use Rattle.sym_path.proofs.Lists.{all_at, take_get, take_past}
use Rattle.sym_run.specs.Covering.{Covers}
use Rattle.sym_run.proofs.covers.cover.Goals as goal

pub fresh_with-requires : goal.fresh_with-requires
fresh_with-requires c = all_at (IsRecord (checked_plan c.args.settings.now.checked.now)) c.args.kept.now 0 c.read.new.rec c.requires.kept c.in_ok-read.ensures

pub records-init : goal.records-init
records-init c =
    let p = checked_plan c.args.settings.now.checked.now in
    let one = c.in_ok-segment.ensures in
    record {
      fits = one.fits;
      few = let few = one.few in omega arith;
      stands = subst (λ (rs : List Record). StandsFor p rs c.in_ok-segment.segment) (sym (take_get c.args.kept.now 0 c.read.new.rec c.in_ok-read.ensures)) one.stands;
    }

pub extend_within-requires-clause-rec : goal.extend_within-requires-clause-rec
extend_within-requires-clause-rec c = all_at (IsRecord (checked_plan c.args.settings.now.checked.now)) c.args.kept.now c.records.index c.read-in-records.new.rec c.requires.kept c.in_ok-read-2.ensures

pub records-preserved : goal.records-preserved
records-preserved c =
    let p = checked_plan c.args.settings.now.checked.now in
    let longer = rw c.in-Fits.is at c.in_ok-longer.ensures in
    record {
      fits = longer.0.fits;
      few = let few = longer.1 in omega arith;
      stands = subst (λ (rs : List Record). StandsFor p rs c.in-Fits.longer) (sym (take_get c.args.kept.now c.records.index c.read-in-records.new.rec c.in_ok-read-2.ensures))
          (longer.0.stands (take c.records.index c.args.kept.now) c.records.invariant.stands);
    }

pub returns : goal.returns
returns c =
    let p = checked_plan c.args.settings.now.checked.now in
    let past : length c.args.kept.now ≤ c.records.index = omega (arith, c.records-test.false, c.len-index-end.ensures) in
    subst (λ (rs : List Record). Covers p c.args.settings.now.limit rs c.records.segment) (take_past c.args.kept.now c.records.index past) c.records.invariant
