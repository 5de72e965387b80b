use Rattle.std.proofs.Common.{arith, refl, ◌-◌}
use Rattle.sym_path.proofs.SettlingLists.{one_more_in_turn, read_at}
use Rattle.sym_path.proofs.settled.ended_in_turn.Goals as goal

pub paths-preserved : goal.paths-preserved
paths-preserved c =
    let p = c.index-paths-index.result in
    let q = c.index-paths-index-in-paths.result in
    one_more_in_turn c.args.paths.now c.paths.index p q (omega arith)
    (read_at c.args.paths.now (c.paths.index - 1) p c.index-paths-index.is (omega arith))
    (read_at c.args.paths.now c.paths.index q c.index-paths-index-in-paths.is (omega arith))
    (c.if-not-ends_before.ensures.0 refl)
    c.paths.invariant
