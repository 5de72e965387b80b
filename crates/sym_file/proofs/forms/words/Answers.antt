use Rattle.std.proofs.lemmas.Result.{err_from_is_err_and}
use Rattle.sym_file.specs.Reading.{apart, many, word_at}
use Rattle.sym_file.proofs.Loops.{goes_on, is_done, stops}
use Rattle.sym_file.proofs.forms.words.Goals as goal

pub returns-in_err-word : goal.returns-in_err-word
returns-in_err-word c =
    let p = err_from_is_err_and c.from_residual.result c.from_residual.ensures.1 in
    rw (p.1, p.2) (stops (apart word_at) c.words.added c.args.count c.words.counter c.words.rest.now (many (apart word_at) c.args.count c.args.bytes.now) c.in_err-word.field-0.0 c.words-test.true c.in_err-word.ensures c.words.invariant)

pub words-preserved : goal.words-preserved
words-preserved c =
    rw c.in_ok-added.ensures (goes_on (apart word_at) c.words.added c.args.count c.words.counter c.words.rest.now (many (apart word_at) c.args.count c.args.bytes.now) c.in_ok-word.word c.in_ok-word.after.now c.words-test.true c.in_ok-word.ensures c.words.invariant)

pub returns : goal.returns
returns c = is_done (apart word_at) c.words.added c.args.count c.words.counter c.words.rest.now (many (apart word_at) c.args.count c.args.bytes.now) c.words-test.false c.words.invariant
