use Rattle.sym_path.proofs.JoiningConstraints.{spans_unite}
use Rattle.sym_path.proofs.joins.parts_unite.Goals as goal

pub returns-in-Span-Span : goal.returns-in-Span-Span
returns-in-Span-Span c = spans_unite c.args.first.now c.args.second.now c.in-Span-Span.left c.in-Span-Span.right c.unite.result c.in-Span-Span.is-0 c.in-Span-Span.is-1 c.unite.ensures c.is_some.result c.is_some.ensures
