use Rattle.sym_file.proofs.Made.{facts_found}
use Rattle.sym_file.proofs.parts.facts_of.Goals as goal

pub returns : goal.returns
returns c = facts_found c.args.literals.items c.of.result c.of.ensures
