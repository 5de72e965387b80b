-- The pass is of the board and may claim. Each claim leaves fewer leaves.
use Rattle.std.proofs.Common.{◌-◌}
use Rattle.sym_board.specs.Passes.{board_leaves, claims, IsPassOf, IsFree}
use Rattle.sym_workers.proofs.workers.work_stretches.Given as goal

abbrev pub invariant-stretches : goal.invariant-stretches
invariant-stretches g l = IsPassOf l.board l.pass × IsFree l.pass

abbrev pub decreases-stretches : goal.decreases-stretches
decreases-stretches g l = board_leaves l.board - claims l.pass
