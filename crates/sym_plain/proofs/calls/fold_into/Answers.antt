use Rattle.std.proofs.Common.{◌∙◌, ap, sym}
use Rattle.sym_check.specs.Checking.CheckedScripts.{checked_plan}
use Rattle.sym_check.specs.Plan.ScriptPlans.{ScriptPlan}
use Rattle.sym_plain.specs.Pairs.{after_record}
use Rattle.sym_plain.proofs.Passes.{pass_next}
use Rattle.sym_plain.proofs.calls.fold_into.Goals as goal

pub returns-clause-pass : goal.returns-clause-pass
returns-clause-pass c records is =
    let p = checked_plan c.args.checked.now in
    c.in_ok-take.ensures
    ∙ ap (λ (q : ScriptPlan). after_record q c.args.rec.now c.args.groups.now) c.plan.ensures.same
    ∙ ap (after_record p c.args.rec.now) is
    ∙ sym (pass_next p records c.args.rec.now)
