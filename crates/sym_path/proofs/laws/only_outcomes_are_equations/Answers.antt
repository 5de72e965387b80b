use Rattle.sym_path.proofs.OnlyOutcomes.{only_outcome}
use Rattle.sym_path.proofs.laws.only_outcomes_are_equations.Goals as goal

pub returns : goal.returns
returns c = only_outcome
