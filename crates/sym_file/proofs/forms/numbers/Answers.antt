use Rattle.std.proofs.lemmas.Result.{err_from_is_err_and}
use Rattle.sym_file.specs.Reading.{apart, many, number_at}
use Rattle.sym_file.proofs.Loops.{goes_on, is_done, stops}
use Rattle.sym_file.proofs.forms.numbers.Goals as goal

pub returns-in_err-number : goal.returns-in_err-number
returns-in_err-number c =
    let p = err_from_is_err_and c.from_residual.result c.from_residual.ensures.1 in
    rw (p.1, p.2) (stops (apart number_at) c.numbers.added c.args.count c.numbers.counter c.numbers.rest.now (many (apart number_at) c.args.count c.args.bytes.now) c.in_err-number.field-0.0 c.numbers-test.true c.in_err-number.ensures c.numbers.invariant)

pub numbers-preserved : goal.numbers-preserved
numbers-preserved c =
    rw c.in_ok-added.ensures (goes_on (apart number_at) c.numbers.added c.args.count c.numbers.counter c.numbers.rest.now (many (apart number_at) c.args.count c.args.bytes.now) c.in_ok-number.number c.in_ok-number.after.now c.numbers-test.true c.in_ok-number.ensures c.numbers.invariant)

pub returns : goal.returns
returns c = is_done (apart number_at) c.numbers.added c.args.count c.numbers.counter c.numbers.rest.now (many (apart number_at) c.args.count c.args.bytes.now) c.numbers-test.false c.numbers.invariant
