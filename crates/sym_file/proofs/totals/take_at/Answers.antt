use Rattle.std.proofs.lemmas.Result.{IfOk-weaker}
use Rattle.std.specs.Map.{lookup}
use Rattle.sym_check.specs.Checking.CheckedScripts.{checked_plan}
use Rattle.sym_check.specs.Meaning.Conditions.{test_truth}
use Rattle.sym_check.specs.Meaning.Groups.{is_key}
use Rattle.sym_check.specs.Meaning.Validity.{IsValidOutcome}
use Rattle.sym_plain.specs.Pairs.{put_by_index, standing}
use Rattle.sym_run.specs.Applying.{AreValid}
use Rattle.sym_file.specs.Totals.{IsLed, IsTaken, led_through}
use Rattle.sym_file.proofs.Taking.{nothing_there, taken_at, valid_at, valid_set}
use Rattle.sym_file.proofs.totals.take_at.Goals as goal

pub lead_through-requires-clause-valid : goal.lead_through-requires-clause-valid
lead_through-requires-clause-valid c = valid_at (checked_plan c.args.checked.now) c.args.groups.now c.args.index c.in-Some.outcome.now c.requires.valid c.in-Some.ensures.outcome

pub returns-in-Some-clause-valid : goal.returns-in-Some-clause-valid
returns-in-Some-clause-valid c =
    let p = checked_plan c.args.checked.now in
    let now = c.lead_through.new.outcome in
    IfOk-weaker c.lead_through.result (λ led. IsValidOutcome p now) (λ led. AreValid p (put_by_index c.args.groups.now c.args.index now))
    (λ led valid. valid_set p c.args.groups.now c.args.index now c.requires.valid valid) c.lead_through.ensures.valid

pub returns-in-Some-clause-taken : goal.returns-in-Some-clause-taken
returns-in-Some-clause-taken c = λ key at.
    let p = checked_plan c.args.checked.now in
    let old = c.args.groups.now in
    let now = c.lead_through.new.outcome in
    IfOk-weaker c.lead_through.result (λ led. IsLed led now (led_through (test_truth p.tests) c.args.chain.now c.in-Some.outcome.now))
    (λ led. IsTaken key old (led_through (test_truth p.tests) c.args.chain.now (standing p (lookup (is_key key) old))) led (put_by_index old c.args.index now))
    (λ led is. taken_at p key c.args.chain.now old c.args.index c.in-Some.outcome.now now led c.requires.distinct c.in-Some.ensures.outcome is at) c.lead_through.ensures.led

pub returns-in-None-clause-taken : goal.returns-in-None-clause-taken
returns-in-None-clause-taken c = λ key at. absurd (nothing_there key c.args.groups.now c.args.index at c.in-None.ensures.outcome)
