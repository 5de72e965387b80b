use Rattle.sym_board.proofs.Nodes.Numbered.{nodes_are_numbered}
use Rattle.sym_board.proofs.laws.nodes_are_numbered.Goals as goal

pub returns : goal.returns
returns c = nodes_are_numbered
