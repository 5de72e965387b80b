use Rattle.std.proofs.lemmas.Result.{on_ok_weaker}
use Rattle.sym_check.specs.Checking.CheckedScripts.{checked_plan}
use Rattle.sym_shuffle.proofs.LeadingSteps.{stepped_after, stepped_before, stepped_here}
use Rattle.sym_shuffle.proofs.led_batches.step_one.Goals as goal

pub returns-then-held-start-clause-led : goal.returns-then-held-start-clause-led
returns-then-held-start-clause-led c = λ rec is values blank number.
    stepped_before (checked_plan c.args.script.now.checked.now) c.args.start c.args.held.now.place rec c.args.outcomes.now c.if-held-start.true

pub returns-then-index-outcomes-clause-led : goal.returns-then-index-outcomes-clause-led
returns-then-index-outcomes-clause-led c = λ rec is values blank number.
    stepped_after (checked_plan c.args.script.now.checked.now) c.args.start c.args.held.now.place rec c.args.outcomes.now c.if-index-outcomes.true

pub returns-clause-led : goal.returns-clause-led
returns-clause-led c = λ rec is values blank number.
    on_ok_weaker c.step_with.result
    (λ stepped.
    stepped_here (checked_plan c.args.script.now.checked.now) c.args.start c.args.held.now.place rec c.args.outcomes.now c.index-outcomes-index.result c.step_with.new.outcome
    c.if-held-start.false c.if-index-outcomes.false stepped)
    (c.step_with.ensures.steps rec is values blank number)
