use Rattle.sym_path.proofs.Lawful.{faults_within, some_path}
use Rattle.sym_path.proofs.laws.standing.standing_segments_are_lawful.Goals as goal

pub returns : goal.returns
returns c = record {
  some = some_path;
  faults = λ p records paths first next h all. faults_within records first next p paths h all;
}
