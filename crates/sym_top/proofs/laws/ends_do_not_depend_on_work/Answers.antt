use Rattle.sym_top.proofs.OtherWork.{one_end_by_work}
use Rattle.sym_top.proofs.laws.ends_do_not_depend_on_work.Goals as goal

pub returns : goal.returns
returns c = one_end_by_work
