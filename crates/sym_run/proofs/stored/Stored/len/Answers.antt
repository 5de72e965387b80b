use Rattle.std.proofs.Common.{length, ap, arith}
use Rattle.sym_run.proofs.CutRecords.{cut_length}
use Rattle.sym_run.proofs.stored.Stored.len.Goals as goal

pub returns : goal.returns
returns c = omega (arith, c.len.ensures, cut_length c.self.inside.width c.self.inside.numbers.items c.self.inside.values.items, ap length c.self.view_is)
