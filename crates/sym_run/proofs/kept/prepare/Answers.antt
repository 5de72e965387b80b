use Rattle.std.proofs.Common.{◌∙◌}
use Rattle.sym_run.proofs.EmptyWords.{with_none}
use Rattle.sym_run.proofs.kept.prepare.Goals as goal

pub returns-in_ok-stored-clause-same : goal.returns-in_ok-stored-clause-same
returns-in_ok-stored-clause-same c = with_none c.in_ok-stored.field-0 ∙ c.in_ok-stored.ensures
