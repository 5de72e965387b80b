use Rattle.std.proofs.lemmas.Result.{err_from_is_err_and}
use Rattle.sym_check.specs.Plan.ScriptPlans.{script_plan}
use Rattle.sym_file.specs.Reading.{apart, literal_at, many}
use Rattle.sym_file.proofs.Loops.{goes_on, is_done, stops}
use Rattle.sym_file.proofs.parts.literals.Goals as goal

pub returns-in_err-literal : goal.returns-in_err-literal
returns-in_err-literal c =
    let p = err_from_is_err_and c.from_residual.result c.from_residual.ensures.1 in
    rw (p.1, p.2) (stops (apart (literal_at (script_plan c.args.plan.now) c.args.parts)) c.literals.literals.items c.args.count c.literals.counter c.literals.rest.now (many (apart (literal_at (script_plan c.args.plan.now) c.args.parts)) c.args.count c.args.bytes.now) c.in_err-literal.field-0.0 c.literals-test.true c.in_err-literal.ensures c.literals.invariant)

pub literals-preserved : goal.literals-preserved
literals-preserved c =
    rw c.in_ok-push.ensures.items (goes_on (apart (literal_at (script_plan c.args.plan.now) c.args.parts)) c.literals.literals.items c.args.count c.literals.counter c.literals.rest.now (many (apart (literal_at (script_plan c.args.plan.now) c.args.parts)) c.args.count c.args.bytes.now) c.in_ok-literal.literal c.in_ok-literal.after.now c.literals-test.true c.in_ok-literal.ensures c.literals.invariant)

pub returns : goal.returns
returns c = is_done (apart (literal_at (script_plan c.args.plan.now) c.args.parts)) c.literals.literals.items c.args.count c.literals.counter c.literals.rest.now (many (apart (literal_at (script_plan c.args.plan.now) c.args.parts)) c.args.count c.args.bytes.now) c.literals-test.false c.literals.invariant
