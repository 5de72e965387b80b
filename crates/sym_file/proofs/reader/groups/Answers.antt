use Rattle.std.proofs.Common.{◌∙◌, [], sym}
use Rattle.std.proofs.lemmas.Result.{err_from_is_err_and}
use Rattle.sym_check.specs.Plan.ScriptPlans.{ScriptPlan, script_plan}
use Rattle.sym_file.specs.Reading.{groups_at}
use Rattle.sym_file.proofs.Loops.{groups_done, groups_go_on, groups_stop, key_twice}
use Rattle.sym_file.proofs.reader.groups.Goals as goal

pub returns-in_err-key : goal.returns-in_err-key
returns-in_err-key c =
    let plan : ScriptPlan = script_plan c.args.plan.now in
    let p = err_from_is_err_and c.from_residual.result c.from_residual.ensures.1 in
    rw (p.1, p.2) (groups_stop plan c.args.count c.groups.counter c.groups.groups c.groups.rest.now (groups_at plan c.args.count [] c.args.bytes.now) c.in_err-key.field-0.0 c.groups-test.true c.in_err-key.ensures c.groups.invariant)

pub returns-in-None : goal.returns-in-None
returns-in-None c =
    let plan : ScriptPlan = script_plan c.args.plan.now in
    key_twice plan c.args.count c.groups.counter c.groups.groups c.groups.rest.now (groups_at plan c.args.count [] c.args.bytes.now) c.in_ok-key.key c.in_ok-key.chain c.in_ok-key.after.now c.groups-test.true c.in_ok-key.ensures (sym c.in_ok-more.ensures ∙ c.in-None.is) c.groups.invariant

pub groups-preserved : goal.groups-preserved
groups-preserved c =
    let plan : ScriptPlan = script_plan c.args.plan.now in
    groups_go_on plan c.args.count c.groups.counter c.groups.groups c.groups.rest.now (groups_at plan c.args.count [] c.args.bytes.now) c.in_ok-key.key c.in_ok-key.chain c.in_ok-key.after.now c.in-Some.more c.groups-test.true c.in_ok-key.ensures (sym c.in_ok-more.ensures ∙ c.in-Some.is) c.groups.invariant

pub returns : goal.returns
returns c =
    let plan : ScriptPlan = script_plan c.args.plan.now in
    groups_done plan c.args.count c.groups.counter c.groups.groups c.groups.rest.now (groups_at plan c.args.count [] c.args.bytes.now) c.groups-test.false c.groups.invariant
