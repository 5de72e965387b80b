use Rattle.sym_path.specs.Joins.{IsUnitedPart}
use Rattle.sym_path.specs.Joins as joins
use Rattle.sym_path.proofs.JoiningUnited.{union_of}
use Rattle.sym_path.proofs.joins.united_part.Goals as goal

pub returns-in-Set-Set : goal.returns-in-Set-Set
returns-in-Set-Set c = union_of _ _ _ _ _ c.in-Set-Set.is-0 c.in-Set-Set.is-1 (joins.sets c.in-Set-Set.left c.in-Set-Set.right c.unite.result c.unite.ensures)

pub returns-in-Span-Span : goal.returns-in-Span-Span
returns-in-Span-Span c = union_of _ _ _ _ _ c.in-Span-Span.is-0 c.in-Span-Span.is-1 (joins.spans c.in-Span-Span.left c.in-Span-Span.right c.united_span.result c.united_span.ensures)

pub returns-in-Facts-Facts : goal.returns-in-Facts-Facts
returns-in-Facts-Facts c = union_of _ _ _ _ _ c.in-Facts-Facts.is-0 c.in-Facts-Facts.is-1 (joins.facts_of c.in-Facts-Facts.left c.in-Facts-Facts.right c.united_facts.result c.united_facts.ensures)

pub returns-in-Free-Free : goal.returns-in-Free-Free
returns-in-Free-Free c = union_of _ _ _ _ _ c.in-Free-Free.is-0 c.in-Free-Free.is-1 joins.free
