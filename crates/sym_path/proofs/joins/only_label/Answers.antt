use Rattle.sym_path.proofs.JoiningTaken.{one_label, no_label, found_at, none_at}
use Rattle.sym_path.proofs.joins.only_label.Goals as goal

pub returns-in-Some-Set : goal.returns-in-Some-Set
returns-in-Some-Set c = one_label c.args.when.now c.args.cell c.in-Some-Set.set (found_at c.args.when.now c.from.result c.args.cell _ _ c.from.ensures c.in-Some-Set.ensures c.in-Some-Set.field-0-is) c.only.result c.only.ensures

pub returns-in-Some-Span : goal.returns-in-Some-Span
returns-in-Some-Span c = no_label c.args.when.now c.args.cell _ (found_at c.args.when.now c.from.result c.args.cell _ _ c.from.ensures c.in-Some-Span.ensures c.in-Some-Span.field-0-is) (λ s q. cc)

pub returns-in-Some-Facts : goal.returns-in-Some-Facts
returns-in-Some-Facts c = no_label c.args.when.now c.args.cell _ (found_at c.args.when.now c.from.result c.args.cell _ _ c.from.ensures c.in-Some-Facts.ensures c.in-Some-Facts.field-0-is) (λ s q. cc)

pub returns-in-Some-Free : goal.returns-in-Some-Free
returns-in-Some-Free c = no_label c.args.when.now c.args.cell _ (found_at c.args.when.now c.from.result c.args.cell _ _ c.from.ensures c.in-Some-Free.ensures c.in-Some-Free.field-0-is) (λ s q. cc)

pub returns-in-None : goal.returns-in-None
returns-in-None c = no_label c.args.when.now c.args.cell _ (none_at c.args.when.now c.from.result c.args.cell c.from.ensures c.in-None.ensures) (λ s q. cc)
