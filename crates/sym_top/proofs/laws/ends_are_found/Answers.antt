use Rattle.sym_top.proofs.EndsFound.{agree, one_end, some_end}
use Rattle.sym_top.proofs.laws.ends_are_found.Goals as goal

pub returns-clause-found : goal.returns-clause-found
returns-clause-found c = agree

pub returns-clause-some : goal.returns-clause-some
returns-clause-some c = some_end

pub returns-clause-one : goal.returns-clause-one
returns-clause-one c = one_end
