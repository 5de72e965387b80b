use Rattle.std.proofs.lemmas.Result.{err_from_is_err_and}
use Rattle.sym_file.specs.Reading.{apart, value_at, values_at}
use Rattle.sym_file.proofs.Loops.{goes_on, is_done, stops}
use Rattle.sym_file.proofs.values.values.Goals as goal

pub returns-in_err-value : goal.returns-in_err-value
returns-in_err-value c =
    let p = err_from_is_err_and c.from_residual.result c.from_residual.ensures.1 in
    rw (p.1, p.2) (stops (apart value_at) c.values.values c.args.count c.values.counter c.values.rest.now (values_at c.args.count c.args.bytes.now) c.in_err-value.field-0.0 c.values-test.true c.in_err-value.ensures c.values.invariant)

pub values-preserved : goal.values-preserved
values-preserved c =
    rw c.in_ok-push.ensures.ok (goes_on (apart value_at) c.values.values c.args.count c.values.counter c.values.rest.now (values_at c.args.count c.args.bytes.now) c.in_ok-value.value c.in_ok-value.after.now c.values-test.true c.in_ok-value.ensures c.values.invariant)

pub returns : goal.returns
returns c = is_done (apart value_at) c.values.values c.args.count c.values.counter c.values.rest.now (values_at c.args.count c.args.bytes.now) c.values-test.false c.values.invariant
