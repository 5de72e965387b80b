use Rattle.sym_board.specs.Passes.{IsPassOf, IsFree}
use Rattle.sym_parts_tests.proofs.board.carry_leaves.Given as goal

abbrev pub invariant-leaves : goal.invariant-leaves
invariant-leaves l = IsPassOf l.board l.pass × IsFree l.pass
