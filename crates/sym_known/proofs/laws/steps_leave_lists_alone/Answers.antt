use Rattle.sym_known.proofs.LeftAlone.{step_fronted}
use Rattle.sym_known.proofs.laws.steps_leave_lists_alone.Goals as goal

pub returns : goal.returns
returns c = step_fronted
