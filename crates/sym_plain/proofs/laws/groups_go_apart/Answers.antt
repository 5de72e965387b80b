use Rattle.sym_plain.proofs.Apart.{groups_apart, pass_more, records_on}
use Rattle.sym_plain.proofs.laws.groups_go_apart.Goals as goal

pub returns-clause-apart : goal.returns-clause-apart
returns-clause-apart c = groups_apart

pub returns-clause-more : goal.returns-clause-more
returns-clause-more c = records_on

pub returns-clause-pass : goal.returns-clause-pass
returns-clause-pass c = pass_more
