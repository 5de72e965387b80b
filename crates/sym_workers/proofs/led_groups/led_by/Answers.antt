use Rattle.std.proofs.Common.{ℕ, length, subst, sym}
use Rattle.sym_workers.specs.Pieces.{AreStretches}
use Rattle.sym_workers.proofs.Stretched.{cut_into}
use Rattle.sym_workers.proofs.led_groups.led_by.Goals as goal

pub runs_of-requires-clause-stretches : goal.runs_of-requires-clause-stretches
runs_of-requires-clause-stretches g c κs within =
    let L = g.S.LendsStretches in
    let s = c.args.stretches.now in
    cut_into c.work.result.now (L.lent s) c.chunks_each.result (L.size s) c.len-chunks.result c.div_ceil-count.result c.requires.some c.work.ensures c.chunks_each.ensures c.len-chunks.ensures c.div_ceil-count.ensures

pub apply_in_order-requires-clause-stretches : goal.apply_in_order-requires-clause-stretches
apply_in_order-requires-clause-stretches g c κs within =
    let L = g.S.LendsStretches in
    let s = c.args.stretches.now in
    subst (λ (n : ℕ). AreStretches (length (L.lent s).chunks) (L.size s) n) (sym c.in_ok-runs.ensures.count)
    (cut_into c.work.result.now (L.lent s) c.chunks_each.result (L.size s) c.len-chunks.result c.div_ceil-count.result c.requires.some c.work.ensures c.chunks_each.ensures c.len-chunks.ensures c.div_ceil-count.ensures)
