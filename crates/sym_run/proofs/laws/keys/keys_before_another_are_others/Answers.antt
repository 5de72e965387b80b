use Rattle.sym_run.proofs.GroupPuts.{others_before}
use Rattle.sym_run.proofs.laws.keys.keys_before_another_are_others.Goals as goal

pub returns : goal.returns
returns c = λ before rest key distinct. others_before before key rest distinct
