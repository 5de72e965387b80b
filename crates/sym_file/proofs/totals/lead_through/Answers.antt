use Rattle.sym_base.specs.Tests.{Truth}
use Rattle.sym_check.specs.Checking.CheckedScripts.{checked_plan}
use Rattle.sym_check.specs.Meaning.Conditions.{test_truth}
use Rattle.sym_file.specs.Totals.{led_by, led_in_turn}
use Rattle.sym_file.proofs.Taking.{led_all, led_more, led_no, led_stops, led_yes}
use Rattle.sym_file.proofs.totals.lead_through.Goals as goal

pub returns-then-not-led-clause-led : goal.returns-then-not-led-clause-led
returns-then-not-led-clause-led c =
    let truth : Truth = test_truth (checked_plan c.args.checked.now).tests in
    led_stops truth c.segments-segment-items.result.now c.segments.segment-index c.segments.outcome (led_in_turn truth c.args.chain.now.segments c.args.outcome.now) c.segment-item.result c.segments-test.true c.segment-item.is
    (led_no c.in_ok-led.led c.lead.new.outcome (led_by truth c.segment-item.result c.segments.outcome) c.if-not-led.true c.in_ok-led.ensures.led) c.segments.invariant.led

pub segments-preserved : goal.segments-preserved
segments-preserved c =
    let truth : Truth = test_truth (checked_plan c.args.checked.now).tests in
    record {
      valid = c.in_ok-led.ensures.valid;
      led =
          led_more truth c.segments-segment-items.result.now c.segments.segment-index c.segments.outcome (led_in_turn truth c.args.chain.now.segments c.args.outcome.now) c.segment-item.result c.segments-test.true c.segment-item.is c.lead.new.outcome
          (led_yes c.in_ok-led.led c.lead.new.outcome (led_by truth c.segment-item.result c.segments.outcome) c.if-not-led.false c.in_ok-led.ensures.led) c.segments.invariant.led;
    }

pub returns-clause-led : goal.returns-clause-led
returns-clause-led c =
    let truth : Truth = test_truth (checked_plan c.args.checked.now).tests in
    led_all truth c.segments-segment-items.result.now c.segments.segment-index c.segments.outcome (led_in_turn truth c.args.chain.now.segments c.args.outcome.now) c.segments-test.false c.segments.invariant.led
