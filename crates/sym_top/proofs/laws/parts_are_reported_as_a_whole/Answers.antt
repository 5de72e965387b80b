use Rattle.sym_top.proofs.PartsReported.{reported_apart}
use Rattle.sym_top.proofs.laws.parts_are_reported_as_a_whole.Goals as goal

pub returns : goal.returns
returns c whole held apart runs end is found done = reported_apart whole held apart runs is end found done
