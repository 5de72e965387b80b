use Rattle.std.proofs.Common.{◌∙◌, ◌≤◌, ◌++◌, ◌∷◌, [], List, ap, sym, subst, take, length, arith, append_assoc}
use Rattle.std.proofs.lemmas.List.{append-nil}
use Rattle.sym_base.specs.declared.values.record.Record.{Record}
use Rattle.sym_check.specs.Checking.CheckedScripts.{checked_plan}
use Rattle.sym_check.specs.Meaning.Validity.{IsRecord}
use Rattle.sym_path.proofs.Lists.{all_at, take_get, take_past}
use Rattle.sym_run.specs.Chains.{SegmentsStandFor}
use Rattle.sym_run.proofs.covers.cover_all.Goals as goal

pub records-init : goal.records-init
records-init c =
    let p = checked_plan c.args.checked.now in
    record {
      some = λ one. absurd (omega (arith, one));
      fits = c.requires.segments;
      tight = c.requires.tight;
      stands = λ records h. subst (λ (rs : List Record). SegmentsStandFor p rs c.args.segments) (sym (append-nil records)) h;
    }

pub take_on-requires-clause-rec : goal.take_on-requires-clause-rec
take_on-requires-clause-rec c =
    all_at (IsRecord (checked_plan c.args.checked.now)) c.args.kept.now c.records.index c.read.new.rec c.requires.kept c.in_ok-read.ensures

pub records-preserved : goal.records-preserved
records-preserved c =
    let p = checked_plan c.args.checked.now in
    let kept : List Record = c.args.kept.now in
    let before : List Record = take c.records.index kept in
    let rec : Record = c.read.new.rec in
    record {
      some = λ one. c.in_ok-covering.ensures.some;
      fits = c.in_ok-covering.ensures.fits;
      tight = c.in_ok-covering.ensures.tight;
      stands = λ records h.
          subst (λ (rs : List Record). SegmentsStandFor p rs c.in_ok-covering.covering)
          (append_assoc records before (rec ∷ []) ∙ ap (λ (rs : List Record). records ++ rs) (sym (take_get kept c.records.index rec c.in_ok-read.ensures)))
          (c.in_ok-covering.ensures.stands (records ++ before) (c.records.invariant.stands records h));
    }

pub returns-clause-some : goal.returns-clause-some
returns-clause-some c = c.records.invariant.some (omega (arith, c.records-test.false, c.len-index-end.ensures, c.requires.some))

pub returns-clause-stands : goal.returns-clause-stands
returns-clause-stands c = λ records h.
    let p = checked_plan c.args.checked.now in
    let past : length c.args.kept.now ≤ c.records.index = omega (arith, c.records-test.false, c.len-index-end.ensures) in
    subst (λ (rs : List Record). SegmentsStandFor p (records ++ rs) c.records.covering) (take_past c.args.kept.now c.records.index past) (c.records.invariant.stands records h)
