use Rattle.sym_path.proofs.SettlingStands.{settled_stand, right_stand}
use Rattle.sym_path.proofs.laws.settled.settled_paths_stand_for_their_records.Goals as goal

pub returns : goal.returns
returns c = record { stands = settled_stand; right = right_stand }
