use Rattle.sym_check.proofs.AcceptedPlans.{accepted_well}
use Rattle.sym_check.proofs.laws.scripts.accepted_plans_are_well_formed.Goals as goal

pub returns : goal.returns
returns c t p = accepted_well t p
