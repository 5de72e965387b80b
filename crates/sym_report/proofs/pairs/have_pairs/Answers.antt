use Rattle.sym_report.proofs.Joining.{some_zipped}
use Rattle.sym_report.proofs.pairs.have_pairs.Goals as goal

pub returns-then-not-is_empty : goal.returns-then-not-is_empty
returns-then-not-is_empty c =
    some_zipped c.args.names.now c.args.values.now c.is_empty.result
    c.is_empty-then-not-is_empty.result
    c.is_empty.ensures c.is_empty-then-not-is_empty.ensures c.if-not-is_empty.true
