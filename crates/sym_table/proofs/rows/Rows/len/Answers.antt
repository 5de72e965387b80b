use Rattle.std.proofs.Common.{arith}
use Rattle.sym_rows.proofs.OnePass.{few_rows}
use Rattle.sym_table.proofs.rows.Rows.len.Goals as goal

pub overflow_add-result : goal.overflow_add-result
overflow_add-result c =
    let few = few_rows c.self.inside.raw.items in
    let counted = c.self.invariant.counted in
    let raw = c.self.inside.raw.ok in
    let raw_small = c.self.inside.raw.small in
    let pushed = c.self.inside.pushed.ok in
    let pushed_small = c.self.inside.pushed.small in
    let size = c.len.ensures in
    omega arith
