use Rattle.std.proofs.Common.{◌≡◌, ◌-◌, ◌<◌, ◌≤◌}
use Rattle.sym_board.specs.Tree.{seek, place, spot}
use Rattle.sym_board.proofs.tree.find.Given as goal

abbrev pub invariant-levels : goal.invariant-levels
invariant-levels l = record { within : (l.at.lo ≤ l.at.hi) × (0 < l.at.hi) × (l.at.hi ≤ 64); way : seek (8 - l._level) (spot l.at.lo l.at.hi l.at.above l.at.is_left) l.node ≡ place l.leaves l.node }
