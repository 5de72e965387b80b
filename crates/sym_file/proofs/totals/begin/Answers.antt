use Rattle.sym_base.specs.declared.values.state.Outcome.TheVariants.{Going}
use Rattle.sym_check.specs.Checking.CheckedScripts.{checked_plan}
use Rattle.sym_check.specs.Meaning.Conditions.{test_truth}
use Rattle.sym_file.specs.Totals.{led_through}
use Rattle.sym_file.proofs.Taking.{begun_not, begun_taken, led_no, led_yes}
use Rattle.sym_file.proofs.totals.begin.Goals as goal

pub returns-then-not-led-clause-taken : goal.returns-then-not-led-clause-taken
returns-then-not-led-clause-taken c =
    let p = checked_plan c.args.checked.now in
    begun_not p c.args.key c.args.chain.now c.args.groups.now c.in_ok-initial.field-0 c.lead_through.new.outcome c.in_ok-initial.ensures
    (led_no c.in_ok-led.led c.lead_through.new.outcome (led_through (test_truth p.tests) c.args.chain.now (Going c.in_ok-initial.field-0)) c.if-not-led.true c.in_ok-led.ensures.led)

pub returns-clause-taken : goal.returns-clause-taken
returns-clause-taken c =
    let p = checked_plan c.args.checked.now in
    begun_taken p c.args.key c.args.chain.now c.args.groups.now c.in_ok-initial.field-0 c.lead_through.new.outcome c.begin.new.self c.in_ok-initial.ensures c.requires.new
    (led_yes c.in_ok-led.led c.lead_through.new.outcome (led_through (test_truth p.tests) c.args.chain.now (Going c.in_ok-initial.field-0)) c.if-not-led.false c.in_ok-led.ensures.led) c.in_ok-begin.ensures.ok
