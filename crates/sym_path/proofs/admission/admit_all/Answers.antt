use Rattle.std.proofs.Common.{sym}
use Rattle.sym_path.proofs.Admits.{admits-lengths}
use Rattle.sym_path.proofs.admission.admit_all.Goals as goal

pub returns-then-when-cells : goal.returns-then-when-cells
returns-then-when-cells c = sym (admits-lengths _ c.args.when.now c.args.cells.now c.if-when-cells.true)
