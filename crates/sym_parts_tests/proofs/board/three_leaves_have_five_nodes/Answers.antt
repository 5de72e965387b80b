use Rattle.sym_board.specs.Passes.{interval}
use Rattle.sym_board.specs.Tree.{half}
use Rattle.sym_parts_tests.proofs.board.three_leaves_have_five_nodes.Goals as goal

pub meet-requires-2-clause-second : goal.meet-requires-2-clause-second
meet-requires-2-clause-second g c = let m = c.in-Some.ensures.met.1.meets in (interval m.lo m.hi, m.parent, c.in_ok-piece.ensures m.lo (half m.lo m.hi) m.hi m.left m.right)
