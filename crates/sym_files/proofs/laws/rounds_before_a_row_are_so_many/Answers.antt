use Rattle.sym_files.proofs.RoundCounts.{as_many}
use Rattle.sym_files.proofs.laws.rounds_before_a_row_are_so_many.Goals as goal

pub returns : goal.returns
returns c = as_many
