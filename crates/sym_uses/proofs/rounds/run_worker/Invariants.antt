use Rattle.std.proofs.Common.{◌-◌}
use Rattle.sym_board.specs.Passes.{board_leaves, claims, IsPassOf, IsFree}
use Rattle.sym_uses.proofs.rounds.run_worker.Given as goal

abbrev pub invariant-chunks : goal.invariant-chunks
invariant-chunks l = IsPassOf l.board l.pass × IsFree l.pass

abbrev pub decreases-chunks : goal.decreases-chunks
decreases-chunks l = board_leaves l.board - claims l.pass
