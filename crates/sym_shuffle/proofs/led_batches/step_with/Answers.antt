use Rattle.std.proofs.Common.{◌∙◌, subst, sym}
use Rattle.std.proofs.lemmas.Result.{on_ok_weaker}
use Rattle.sym_check.specs.Checking.CheckedScripts.{checked_plan}
use Rattle.sym_check.specs.Plan.WellFormed.{IsWellFormed}
use Rattle.sym_shuffle.proofs.MarkedValues.{blank_put, blank_steps, record_length}
use Rattle.sym_shuffle.proofs.led_batches.step_with.Goals as goal

pub returns-clause-blank : goal.returns-clause-blank
returns-clause-blank c = λ rec is values blank.
    let p = checked_plan c.args.script.now.checked.now in
    let filled = c.in_ok-set_marked.ensures rec.fields values (record_length p rec is ∙ sym blank.len) in
    on_ok_weaker c.advance.result (λ e. blank_put p c.args.script.now.marks.now rec.fields c.args.stepper.now.rec.fields c.set_marked.new.fields blank filled) c.advance.ensures

pub returns-clause-steps : goal.returns-clause-steps
returns-clause-steps c = λ rec is values blank number.
    let p = checked_plan c.args.script.now.checked.now in
    let w = subst IsWellFormed c.plan-plan.ensures.same c.plan-plan.ensures.well_formed in
    let filled = c.in_ok-set_marked.ensures rec.fields values (record_length p rec is ∙ sym blank.len) in
    on_ok_weaker c.advance.result
    (λ e. e ∙ blank_steps p c.args.script.now.marks.now rec (record { no = c.args.held.now.no; fields = c.set_marked.new.fields }) c.args.stepper.now.rec.fields c.args.outcome.now w is c.requires blank number filled)
    c.advance.ensures
