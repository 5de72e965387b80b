use Rattle.std.proofs.Common.{sym}
use Rattle.sym_base.specs.declared.values.value.Key.{Key}
use Rattle.sym_base.specs.declared.values.state.Outcome.{Outcome}
use Rattle.sym_check.specs.Checking.CheckedScripts.{checked_plan}
use Rattle.sym_check.specs.Meaning.Validity.{IsValidOutcome}
use Rattle.sym_check.proofs.Keys.{same_key}
use Rattle.sym_run.proofs.GroupPuts.{all_found, all_put}
use Rattle.sym_run.proofs.applied_groups.lead_on.Goals as goal

pub lead_with-requires-clause-valid : goal.lead_with-requires-clause-valid
lead_with-requires-clause-valid c =
    let p = checked_plan c.args.checked.now in
    all_found (λ (k : Key) (o : Outcome). IsValidOutcome p o) c.args.key.now c.in-Some.outcome.now c.args.groups.now c.requires.valid (sym c.in-Some.ensures.outcome)

pub returns-in_ok-lead_with-in-Some-clause-valid : goal.returns-in_ok-lead_with-in-Some-clause-valid
returns-in_ok-lead_with-in-Some-clause-valid c =
    let p = checked_plan c.args.checked.now in
    all_put (λ (k : Key) (o : Outcome). IsValidOutcome p o) (λ (k : Key) (o : Outcome). IsValidOutcome p o) c.args.key.now c.lead_with.new.outcome
    (λ j o e s. s) (λ j e. c.in_ok-lead_with-in-Some.ensures.valid) c.args.groups.now (same_key c.args.key.now) c.requires.valid
