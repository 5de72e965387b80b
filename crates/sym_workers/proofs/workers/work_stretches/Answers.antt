use Rattle.std.proofs.Common.{◌+◌, subst}
use Rattle.sym_board.specs.Passes.{board_leaves, interval}
use Rattle.sym_workers.specs.Pieces.{StandsBetween}
use Rattle.sym_workers.proofs.Stretched.{of_stretch}
use Rattle.sym_workers.proofs.workers.work_stretches.Goals as goal

pub carry-requires-clause-held : goal.carry-requires-clause-held
carry-requires-clause-held g c = λ κs within.
    let L = g.S.LendsStretches in
    let s = c.args.stretches.now in
    let number = c.in-Some.stretch in
    let run = c.in-Ok.run' in
    let P : g.row.S.Denot → Type 0 = λ x. StandsBetween (L.lent x) (L.size x) number (number + 1) run in
    let made = of_stretch c.work-work.result.now (L.lent s) c.chunks_each-each.result (L.size s) c.len-chunks.result (board_leaves c.args.board.now) number c.min-end.result run
    c.work-work.ensures c.chunks_each-each.ensures c.len-chunks.ensures c.requires.board.stretches c.in-Some.ensures.within c.min-end.ensures c.in-Ok.ensures in
    (interval number (number + 1), c.in-Some.ensures.leaf, subst P c.requires.board.input made)
