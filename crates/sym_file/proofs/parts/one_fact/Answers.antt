use Rattle.std.proofs.lemmas.Result.{err_from_is_err_and}
use Rattle.sym_check.specs.Plan.ScriptPlans.{script_plan}
use Rattle.sym_file.proofs.OneItem.{fact_fails, fact_read}
use Rattle.sym_file.proofs.parts.one_fact.Goals as goal

pub returns-in_err-literal : goal.returns-in_err-literal
returns-in_err-literal c =
    let e = err_from_is_err_and c.from_residual.result c.from_residual.ensures.1 in
    rw (e.1, e.2) (fact_fails (script_plan c.args.plan.now) c.args.bytes.now c.args.parts c.in_err-literal.field-0.0 c.in_err-literal.ensures)

pub returns : goal.returns
returns c = fact_read (script_plan c.args.plan.now) c.args.bytes.now c.args.parts c.in_ok-literal.literal c.in_ok-literal.rest.now c.in_ok-facts.facts c.in_ok-literal.ensures c.in_ok-facts.ensures
