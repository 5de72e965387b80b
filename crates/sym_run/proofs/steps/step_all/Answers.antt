use Rattle.std.proofs.Common.{◌∙◌, ◌≤◌, List, ap, sym, subst, length, arith}
use Rattle.sym_base.specs.declared.values.record.Record.{Record}
use Rattle.sym_check.specs.Checking.CheckedScripts.{checked_plan}
use Rattle.sym_check.specs.Meaning.Updates.{after}
use Rattle.sym_check.specs.Meaning.Validity.{IsRecord, IsValidOutcome}
use Rattle.sym_check.specs.Plan.WellFormed.{IsWellFormed}
use Rattle.sym_path.proofs.Lists.{all_at, take_past}
use Rattle.sym_run.proofs.KeptRecords.{one_step}
use Rattle.sym_run.proofs.steps.step_all.Goals as goal

pub records-preserved : goal.records-preserved
records-preserved c =
    let p = checked_plan c.args.checked.now in
    let kept : List Record = c.args.kept.now in
    let i = c.records.index in
    let rec : Record = c.read.new.rec in
    let at = c.in_ok-read.ensures in
    record {
      valid =
          subst (IsValidOutcome p) (sym c.in_ok-advance.ensures)
          (c.well_formed_plans_keep_states_valid.ensures.then p c.records.outcome rec (subst IsWellFormed c.plan-plan.ensures.same c.plan-plan.ensures.well_formed)
          (all_at (IsRecord p) kept i rec c.requires.records at) c.records.invariant.valid);
      led = one_step p kept i rec c.args.outcome.now c.records.outcome c.advance.new.outcome at c.records.invariant.led c.in_ok-advance.ensures;
    }

pub returns-clause-value : goal.returns-clause-value
returns-clause-value c =
    let p = checked_plan c.args.checked.now in
    let past : length c.args.kept.now ≤ c.records.index = omega (arith, c.records-test.false, c.len-index-end.ensures) in
    c.records.invariant.led ∙ ap (λ (rs : List Record). after p rs c.args.outcome.now) (take_past c.args.kept.now c.records.index past)
