use Rattle.sym_path.proofs.AmongOutcomes.{admitted_alike}
use Rattle.sym_path.proofs.laws.agreeing_paths_admit_alike.Goals as goal

pub returns : goal.returns
returns c = admitted_alike
