use Rattle.sym_path.proofs.Changed.{faults_give, faults_fit}
use Rattle.sym_path.proofs.laws.changes.paths_can_fail.Goals as goal

pub returns : goal.returns
returns c = record { gives = faults_give; fits = faults_fit }
